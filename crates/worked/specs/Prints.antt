-- What is printed.
--
--   spaced show xs      each value as it shows, after a space
--   refusal_text r      the text of a refusal
use Rattle.std.specs.Prelude.{List, [], ◌∷◌, ◌++◌, ℕ, codes}
use Rattle.std.specs.Fmt.{decimal}
use Rattle.plan.specs.declared.refusals.Refusal as refusals
use Rattle.plan.specs.Refusals.{number}

unfoldable pub spaced : {T : Type 0} → (T → List ℕ) → List T → List ℕ
spaced show [] = []
spaced show (x ∷ xs) = 32 ∷ (show x ++ spaced show xs)

abbrev pub refusal_text : refusals.Refusal → List ℕ
refusal_text r = codes " refused " ++ decimal (number r)

-- "Each field is a one-byte tag, a two-byte length and its body": the number of steps in the definition does not matter.
--
--   enough         any number of steps that is not below the number of bytes gives the same fields
--   field-first    the fields of a sheet are its first field and those of the bytes after it
use Rattle.std.specs.Prelude.{◌≡◌, refl, cond, List, [], ◌∷◌, ℕ, zero, suc, ◌≤◌, ◌<◌, leb, length, take, drop}
use Rattle.std.proofs.Common.{ap, le_refl, arith, length-drop}
use Rattle.numerals.specs.Numbers.{big}
use Rattle.fields.specs.Fields.{Fields, cut, field, first, parse, fields_of}

-- what is made of the bytes after the first field is all that the first field asks
first-same : (f g : List ℕ → Fields) (s : List ℕ) → ((r : List ℕ) → length r < length s → f r ≡ g r) → first f s ≡ first g s
first-same f g [] h = refl
first-same f g (t ∷ []) h = refl
first-same f g (t ∷ a ∷ []) h = refl
first-same f g (t ∷ a ∷ b ∷ s) h =
    let n = big (a ∷ b ∷ []) in
    ap (λ r. cond (leb n (length s)) (field t (take n s) r) cut) (h (drop n s) (rw length-drop (omega arith)))

pub enough : (f g : ℕ) (s : List ℕ) → length s ≤ f → length s ≤ g → parse f s ≡ parse g s
unfolding parse
enough zero zero s h k = refl
enough zero (suc g) s h k = first-same (λ r. cut) (parse g) s (λ r l. absurd (omega (arith, h, l)))
enough (suc f) zero s h k = first-same (parse f) (λ r. cut) s (λ r l. absurd (omega (arith, k, l)))
enough (suc f) (suc g) s h k = first-same (parse f) (parse g) s (λ r l. enough f g r (omega arith) (omega arith))

pub field-first : (s : List ℕ) → fields_of s ≡ first fields_of s
unfolding fields_of parse
field-first [] = refl
field-first (b ∷ s) = first-same (parse (length s)) fields_of (b ∷ s) (λ r l. enough (length s) (length r) r (omega arith) (le_refl (length r)))

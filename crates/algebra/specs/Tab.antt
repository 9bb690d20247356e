-- The list of a function's first n values. A column of the code is such a list, and the laws of columns are laws of functions.
--
--   tab n f       f 0, .., f (n - 1); tab_from s n f begins at f s
use Rattle.std.specs.Prelude.{List, [], ◌∷◌, ℕ, zero, suc}

module _ {A : Type 0} where
  -- f s, f (s + 1), .., n of them
  unfoldable pub tab_from : ℕ → ℕ → (ℕ → A) → List A
  tab_from s zero f = []
  tab_from s (suc n) f = f s ∷ tab_from (suc s) n f

  abbrev pub tab : ℕ → (ℕ → A) → List A
  tab n f = tab_from 0 n f

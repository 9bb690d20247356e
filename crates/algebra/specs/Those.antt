-- The entries of a list that pass a test.
--
--   those test xs    those entries of xs, in their order
use Rattle.std.specs.Prelude.{Bool, cond, List, [], ◌∷◌}

module _ {A : Type 0} (test : A → Bool) where
  unfoldable pub those : List A → List A
  those [] = []
  those (x ∷ xs) = cond (test x) (x ∷ those xs) (those xs)

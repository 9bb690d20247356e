-- What the inner functions of a walk give.
--
--   length_at s at    the length that the field at a place has
--   end_at s at       where the field that begins at a place ends; 0 where it is cut short
use Rattle.std.specs.Prelude.{cond, List, [], ◌∷◌, ℕ, ◌+◌, leb, length, get_or}
use Rattle.numerals.specs.Numbers.{big}

-- the length that the field at a place has
abbrev pub length_at : List ℕ → ℕ → ℕ
length_at s at = big (get_or s (at + 1) 0 ∷ get_or s (at + 2) 0 ∷ [])

unfoldable pub end_at : List ℕ → ℕ → ℕ
end_at s at = cond (leb (at + 3) (length s)) (cond (leb (at + 3 + length_at s at) (length s)) (at + 3 + length_at s at) 0) 0

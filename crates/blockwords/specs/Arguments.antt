-- What the bytes of an argument are: a whole number in decimal, or something else.
--
--   is_digit b          the byte is a digit
--   all_digits bytes    so are all these bytes
--   argument_of bytes   their number, 255 where it is above that, or no number
use Rattle.std.specs.Prelude.{Bool, true, not, cond, ◌&&◌, List, [], ◌∷◌, ℕ, Option, None, Some, min, eqb, leb, length}
use Rattle.text.specs.Laws.Digits.{worth}

-- the bytes from 48 to 57
unfoldable pub is_digit : ℕ → Bool
is_digit b = leb 48 b && leb b 57

unfoldable pub all_digits : List ℕ → Bool
all_digits [] = true
all_digits (b ∷ bs) = is_digit b && all_digits bs

-- no byte at all is no number
unfoldable pub argument_of : List ℕ → Option ℕ
argument_of bytes = cond (not (eqb (length bytes) 0) && all_digits bytes) (Some (min 255 (worth 0 bytes))) None

-- An argument byte by byte, by its length. `Digits` has the loop over its bytes.
--
--   from_zero              a digit is 48 or above
--   no_byte, all-digits    what the argument is: without a byte, and of digits alone
use Rattle.std.specs.Prelude.{◌≡◌, None, Some, true, leb, List, ℕ, ◌≤◌, length}
use Rattle.std.proofs.Common.{eq-eqb, ne_eqb, leb-true}
use Rattle.algebra.specs.Laws.Tests.{both}
use Rattle.blockwords.specs.Arguments.{is_digit, argument_of}
use Rattle.blockwords.specs.Laws.Digits as digits
use Rattle.blockwords.specs.Laws.Digits.{Read}

pub from_zero : (b : ℕ) → is_digit b ≡ true → 48 ≤ b
unfolding is_digit
from_zero b e = leb-true 48 b (both (leb 48 b) (leb b 57) e).0

pub no_byte : (bytes : List ℕ) → length bytes ≡ 0 → None ≡ argument_of bytes
no_byte bytes e = digits.no_byte bytes (eq-eqb (length bytes) 0 e)

module _ {bytes : List ℕ} {i n : ℕ} (r : Read bytes i n) where
  pub all-digits : (length bytes ≡ 0 → ⊥) → length bytes ≤ i → Some n ≡ argument_of bytes
  all-digits some h = digits.all-digits r (ne_eqb (length bytes) 0 some) h

-- Small texts, computed over the definitions.
--
--   row-AC, all-letters      letters of a row
--   nothing, hundred, most   numbers: 0, 100, and the largest u64
--   below, zero-unsigned     values: below 0, and 0, which has no sign
--   within, cut_short        bytes written in the middle of a buffer, and at its end
use Rattle.std.specs.Prelude.{◌≡◌, refl, pos, negsuc}
use Rattle.std.proofs.lemmas.List.Edits.{sets}
use Rattle.text.specs.Text.{ascii}
use Rattle.text.specs.Spelled.{letter_of, letters_in, letters_of, decimal_in, decimal, signed}

row-AC : letters_of 5 ≡ ascii "AC"
unfolding letters_in letter_of
row-AC = refl

all-letters : letters_of 65535 ≡ ascii "ABCDEFGHIJKLMNOP"
unfolding letters_in letter_of
all-letters = refl

nothing : decimal 0 ≡ ascii "0"
unfolding decimal_in
nothing = refl

hundred : decimal 100 ≡ ascii "100"
unfolding decimal_in
hundred = refl

most : decimal 18_446_744_073_709_551_615 ≡ ascii "18446744073709551615"
unfolding decimal_in
most = refl

below : signed (negsuc 11) ≡ ascii "-12"
unfolding decimal_in
below = refl

zero-unsigned : signed (pos 0) ≡ ascii "0"
unfolding decimal_in
zero-unsigned = refl

-- a text in the middle of a buffer, and one for which there is no room
within : sets (ascii "uvwx") 1 (ascii "ab") ≡ ascii "uabx"
within = refl

cut_short : sets (ascii "uvwx") 3 (ascii "ab") ≡ ascii "uvwa"
cut_short = refl

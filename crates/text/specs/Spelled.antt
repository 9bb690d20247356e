-- The fields of printed lines: letters and numbers as text.
--
--   letter_of w i                  letter i, if the word w has it
--   letters_in n w, letters_of w   those of the first n letters that are in w, and all its letters
--   digit n                        the last digit of a number
--   decimal_in f n, decimal n      a number in decimal, of at most f + 1 digits, and of at most 20
--   signed z                       a value in decimal, with a minus sign where it is below 0
use Rattle.std.specs.Prelude.{cond, List, [], ◌∷◌, ◌++◌, ℕ, zero, suc, ◌+◌, ◌/◌, ◌%◌, ltb, ℤ, pos, negsuc}
use Rattle.words.specs.Words.{has}
use Rattle.text.specs.Text.{ascii}

-- A is the byte 65
unfoldable pub letter_of : ℕ → ℕ → List ℕ
letter_of w i = cond (has w i) ((65 + i) ∷ []) []

-- W6: "the row's letters, A first"
unfoldable pub letters_in : ℕ → ℕ → List ℕ
letters_in zero w = []
letters_in (suc i) w = letters_in i w ++ letter_of w i

-- W6
abbrev pub letters_of : ℕ → List ℕ
letters_of w = letters_in 16 w

-- the digit 0 is the byte 48
abbrev pub digit : ℕ → ℕ
digit n = 48 + n % 10

-- no digit stands before those that are needed
unfoldable pub decimal_in : ℕ → ℕ → List ℕ
decimal_in zero n = digit n ∷ []
decimal_in (suc f) n = cond (ltb n 10) (digit n ∷ []) (decimal_in f (n / 10) ++ (digit n ∷ []))

-- 20 digits are enough for any number of 64 bits
abbrev pub decimal : ℕ → List ℕ
decimal n = decimal_in 19 n

abbrev pub signed : ℤ → List ℕ
signed (pos n) = decimal n
signed (negsuc n) = ascii "-" ++ decimal (suc n)

-- Words, and what the rules say of their letters.
--
--   letter w i, has w i     letter i of w as 1 or 0, and whether it is there; 0 is A
--   letters w               how many letters w has
--   beyond n w              w has a letter from n on
--   word_of n f              the set of those of the first n letters of which f holds
--   odd n, odd_word w        n is odd; w has an odd number of letters
--   shared a b, odd_in a b   how many letters a and b have in common, and whether that is an odd number
--   lows, plus_in            how many letters of a word are low in a run, and whether the run counts plus in its effect
--   times, combined          how often a letter occurs in some words, and the word that they combine to
--   any f ws                 f holds of one of the words
--   among w ws, repeated     w is one of them, and one word is there twice
use Rattle.std.specs.List.{list_any}
use Rattle.std.specs.Prelude.{Bool, not, ◌&&◌, List, ℕ, ◌+◌, ◌*◌, ◌-◌, ◌%◌, eqb, leb, length, get_or, take}
use Rattle.algebra.specs.Naturals.{Σℕ}
use Rattle.algebra.specs.Bits.{bit, bits, is_set}
use Rattle.algebra.specs.Search.{some}

-- P6: "A word is a 16-bit set of base letters, bit 0 for A."
abbrev pub letter : ℕ → ℕ → ℕ
letter w i = bit w i

-- P6
abbrev pub has : ℕ → ℕ → Bool
has w i = is_set w i

-- P7, N5: how many letters a word has
unfoldable pub letters : ℕ → ℕ
letters w = Σℕ 16 (letter w)

-- N5: "letter beyond k"
unfoldable pub beyond : ℕ → ℕ → Bool
beyond n w = some 16 (λ i. leb n i && has w i)

abbrev pub word_of : ℕ → (ℕ → Bool) → ℕ
word_of n f = bits n f

abbrev pub odd : ℕ → Bool
odd n = eqb (n % 2) 1

-- E4: "has an odd number of letters"; E10: "being odd or even"
abbrev pub odd_word : ℕ → Bool
odd_word w = odd (letters w)

unfoldable pub shared : ℕ → ℕ → ℕ
shared a b = Σℕ 16 (λ i. letter a i * letter b i)

-- P8, R4: "an odd number of its word's letters are high": of the run's letters that are high, and the word's
unfoldable pub odd_in : ℕ → ℕ → Bool
odd_in run w = odd (shared run w)

-- how many letters of w are low in the run
unfoldable pub lows : ℕ → ℕ → ℕ
lows run w = Σℕ 16 (λ i. letter w i * (1 - letter run i))

-- E11: "high minus low": each letter that is low turns the sign, so the run counts plus exactly when an even number of them are
unfoldable pub plus_in : ℕ → ℕ → Bool
plus_in run w = not (odd (lows run w))

-- how often letter i occurs in the word w and those of the words ws that are chosen; a choice is a set of their places, bit j for word j.
-- Of AB, BC, CD the choice 5, bits 0 and 2, takes AB and CD, which combine to ABCD.
unfoldable pub times : ℕ → ℕ → List ℕ → ℕ → ℕ
times w choice ws i = letter w i + Σℕ (length ws) (λ j. letter choice j * letter (get_or ws j 0) i)

-- R5: "Combining words keeps the letters that occur an odd number of times."
unfoldable pub combined : ℕ → ℕ → List ℕ → ℕ
combined w choice ws = word_of 16 (λ i. odd (times w choice ws i))

unfoldable pub any : (ℕ → Bool) → List ℕ → Bool
any f ws = list_any f ws

unfoldable pub among : ℕ → List ℕ → Bool
among w ws = any (λ v. eqb v w) ws

-- N6: one word is there twice: it is among those before it
unfoldable pub repeated : List ℕ → Bool
repeated ws = some (length ws) (λ j. among (get_or ws j 0) (take j ws))

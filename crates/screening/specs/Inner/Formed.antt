-- The words of factors, and pairs of words, as code forms them.
--
--   main_formed k words i       the word of factor i: its letter, or from k on the word of an added factor
--   pairs_with j words mains    word j and one before it combine to one of the mains
--   some_pair words mains       two of the words combine to one of the mains
use Rattle.std.specs.Prelude.{Bool, cond, List, ℕ, ◌-◌, ◌^◌, ltb, length, get_or}
use Rattle.std.specs.Int.Bits.{bit_xor}
use Rattle.algebra.specs.Search.{some}
use Rattle.words.specs.Words.{among}

abbrev pub main_formed : ℕ → List ℕ → ℕ → ℕ
main_formed k words i = cond (ltb i k) (2 ^ i) (get_or words (i - k) 0)

unfoldable pub pairs_with : ℕ → List ℕ → List ℕ → Bool
pairs_with j words mains = some j (λ i. among (bit_xor (get_or words i 0) (get_or words j 0)) mains)

unfoldable pub some_pair : List ℕ → List ℕ → Bool
some_pair words mains = some (length words) (λ j. pairs_with j words mains)

-- The lists by their numbers. The list with the number i has the digits of i to the base 2 ^ k as its words, the first word the highest
-- digit, so that the order of the numbers is the order of the lists.
--
--   word_at k b i j    the word at place j of the list of b words with the number i
--   words_at k b i     that list
use Rattle.std.specs.Prelude.{List, ℕ, ◌*◌, ◌-◌, ◌/◌, ◌%◌, ◌^◌}
use Rattle.algebra.specs.Tab.{tab}

unfoldable pub word_at : ℕ → ℕ → ℕ → ℕ → ℕ
word_at k b i j = i / 2 ^ (k * (b - j - 1)) % 2 ^ k

abbrev pub words_at : ℕ → ℕ → ℕ → List ℕ
words_at k b i = tab b (word_at k b i)

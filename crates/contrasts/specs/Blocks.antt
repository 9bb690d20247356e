-- Three blocks of the runs of three-level factors, told apart by a word: a number whose digits go with the letters, A's the lowest.
--
--   digit_sum Fs w i           the sum, over the letters, of the digit of word w times the level in run i
--   block_of Fs w i             the block of run i
--   block_runs Fs w j          how many runs block j has
--   block_sum Fs w x j         the sum of block j, of a column of run sums
--   block_numerator Fs r w x   the numerator of the block amount of runs made r times, of the column of their sums
use Rattle.std.specs.Prelude.{cond, List, [], ◌∷◌, ℕ, ◌+◌, ◌*◌, ◌-◌, ◌/◌, ◌%◌, eqb, ℤ, pos, nat_abs}
use Rattle.algebra.specs.Sum.{Σ}
use Rattle.algebra.specs.Naturals.{Σℕ}
use Rattle.contrasts.specs.Factor.{Factor}
use Rattle.contrasts.specs.Totals.{Column, size, denominator, numerator}

-- R11: "the sum of digit times level"
unfoldable pub digit_sum : List Factor → ℕ → ℕ → ℕ
digit_sum [] w i = 0
digit_sum (F ∷ Fs) w i = (w % F.levels) * (i % F.levels) + digit_sum Fs (w / F.levels) (i / F.levels)

-- R11: "A run's block is the sum of digit times level, modulo 3."
abbrev pub block_of : List Factor → ℕ → ℕ → ℕ
block_of Fs w i = digit_sum Fs w i % 3

abbrev pub block_runs : List Factor → ℕ → ℕ → ℕ
block_runs Fs w j = Σℕ (size Fs) (λ i. cond (eqb (block_of Fs w i) j) 1 0)

abbrev pub block_sum : List Factor → ℕ → Column → ℕ → ℤ
block_sum Fs w x j = Σ (size Fs) (λ i. cond (eqb (block_of Fs w i) j) (x i) (pos 0))

-- V17: "The block amount is the sum over blocks of the squared block sum over its number of readings, less the mean's square term.": each of
-- these over the denominator of the table, which is r times that of runs made once. Of three-level factors, with a word that uses a letter and r not 0,
-- which is all that is asked (`block_amount` of `anova`), no division leaves anything over (`no-remainder`), and nothing is cut off at 0 (`not-cut`)
unfoldable pub block_numerator : List Factor → ℕ → ℕ → Column → ℕ
block_numerator Fs r w x =
    Σℕ 3 (λ j. r * denominator Fs * (nat_abs (block_sum Fs w x j) * nat_abs (block_sum Fs w x j)) / (r * block_runs Fs w j)) - numerator Fs x 0

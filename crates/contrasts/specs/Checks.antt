-- The check of section 5 of the rules, over any list of factors: rounds that begin with the readings.
--
--   check_weight F j          the sum of a level's coefficients
--   round F x, rounds Fs x    a round of the check, and what a round for each factor leaves
use Rattle.std.specs.Prelude.{List, [], ◌∷◌, ℕ, ◌+◌, ◌*◌, ℤ, ◌*ℤ◌}
use Rattle.algebra.specs.Sum.{Σ}
use Rattle.contrasts.specs.Factor.{Factor}
use Rattle.contrasts.specs.Totals.{Column}

-- T21: at two levels these are 2 and 0
-- T22: at three levels they are the numbers 3, -1 and 1 of "3 times first minus middle plus third"
unfoldable pub check_weight : Factor → ℕ → ℤ
check_weight F j = Σ F.levels (λ d. F.coef d j)

-- T22: "each turning every successive set of three, in order, into 3 times first minus middle plus third"
unfoldable pub round : Factor → Column → Column
round F x q = Σ F.levels (λ j. check_weight F j *ℤ x (q * F.levels + j))

-- T22: "what k rounds leave, [..] beginning with the readings"
unfoldable pub rounds : List Factor → Column → ℤ
rounds [] x = x 0
rounds (F ∷ Fs) x = rounds Fs (round F x)

-- What the inner functions form of the readings.
--
--   squared x            a number times itself
--   about_means n r xs   the squares of the readings of n runs about their run's mean, r times
--   after_round n xs     a column after a round of n sets
use Rattle.std.specs.Prelude.{cond, List, ℕ, ◌-◌, ◌*◌, ltb, ℤ, nat_abs, length}
use Rattle.algebra.specs.Tab.{tab}
use Rattle.contrasts.specs.Checks.{round}
use Rattle.contrasts.specs.Columns.{read, run_sums_in, squares_of}
use Rattle.contrasts.proofs.Factors.{three}

abbrev pub squared : ℤ → ℕ
squared x = nat_abs x * nat_abs x

-- V16, as code forms it: r times the squares of the readings, less those of the run sums (`within-is`)
unfoldable pub about_means : ℕ → ℕ → List ℤ → ℕ
about_means n r xs = r * squares_of xs - squares_of (run_sums_in n r xs)

-- "each turning every successive set of three, in order, into 3 times first minus middle plus third"; the places after the n sets stay
unfoldable pub after_round : ℕ → List ℤ → List ℤ
after_round n xs = tab (length xs) (λ i. cond (ltb i n) (round three (read xs) i) (read xs i))

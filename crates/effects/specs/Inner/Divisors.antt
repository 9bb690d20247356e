-- The divisors of three-level factors, as a table.
--
--   six_factors      the table: the divisors of all effects of six factors
--   thirds xs        each entry divided by 3
--   divisors_of k    the table for k factors
use Rattle.std.specs.Prelude.{List, ℕ, ◌-◌, ◌^◌, ◌/◌, length, get_or, replicate}
use Rattle.algebra.specs.Tab.{tab}
use Rattle.contrasts.proofs.Factors.{three}
use Rattle.contrasts.specs.Totals.{divisor*}

-- "at three levels the product of 3, 2 or 6 by digit. The 729 divisors of six three-level factors are kept as one constant table"
unfoldable pub six_factors : List ℕ
six_factors = tab 729 (divisor* (replicate 6 three))

unfoldable pub thirds : List ℕ → List ℕ
thirds xs = tab (length xs) (λ e. get_or xs e 0 / 3)

-- "with fewer factors the entry is divided by 3 for each factor missing"; so the first 3 to the power k entries are the divisors of k
-- factors (`divisor-three`)
unfoldable pub divisors_of : ℕ → List ℕ
divisors_of k = tab 729 (λ e. divisor* (replicate 6 three) e / 3 ^ (6 - k))

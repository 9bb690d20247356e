-- How large a pass or step makes values.
--
--   reach F   the most by which a pass or step of F multiplies the largest value: the largest sum of sizes in a row
use Rattle.std.specs.Prelude.{ℕ, nat_abs}
use Rattle.algebra.specs.Naturals.{Σℕ, most}
use Rattle.contrasts.specs.Factor.{Factor}

unfoldable pub reach : Factor → ℕ
reach F = most F.levels (λ d. Σℕ F.levels (λ j. nat_abs (F.coef d j)))

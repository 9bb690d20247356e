-- A factor of an experiment: its levels, and the rows of coefficients by which effects are totalled.
--
--   Factor        levels, coefficients, divisors, and the law of orthogonal rows
--   weight F d    the common denominator over the divisor of row d
use Rattle.std.specs.Prelude.{◌≡◌, cond, ℕ, ◌*◌, ◌/◌, ◌<◌, eqb, ℤ, pos, ◌*ℤ◌}
use Rattle.algebra.specs.Sum.{Σ}

-- C16: "Facts common to both level counts are proved for a general count."
pub record Factor : Type 0 where
  pub levels : ℕ
  -- coef d j: the number of row d at level j
  pub coef : ℕ → ℕ → ℤ
  -- the divisor of row d
  pub divisor : ℕ → ℕ
  -- a number that every divisor divides
  pub common : ℕ
  pub some_level : 0 < levels
  pub some-common : 0 < common
  pub divides : (d : ℕ) → d < levels → divisor d * (common / divisor d) ≡ common
  -- two rows are orthogonal, and a row's divisor is the sum of its squares
  pub rows : (c d : ℕ) → c < levels → d < levels
      → Σ levels (λ j. coef c j *ℤ coef d j) ≡ cond (eqb c d) (pos (divisor c)) (pos 0)
  -- and so are two columns, each row counted by its weight
  pub columns : (i j : ℕ) → i < levels → j < levels
      → Σ levels (λ d. pos (common / divisor d) *ℤ (coef d i *ℤ coef d j)) ≡ cond (eqb i j) (pos common) (pos 0)

abbrev pub weight : Factor → ℕ → ℕ
weight F d = F.common / F.divisor d

-- What the loops over all lists ask: what is known where neither 3 nor 17 applies.
--
--   InRange k b    the factors and the words are as many as the call admits
use Rattle.std.specs.Prelude.{ℕ, ◌≤◌}

pub record InRange (k b : ℕ) : Type 0 where
  pub factors : (2 ≤ k) × (k ≤ 5)
  pub words : (1 ≤ b) × (b ≤ 3)

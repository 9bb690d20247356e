-- Places beyond a plan's counts are ignored by the pass and the totals call too.
--
--   same-pass, same-pass-column        plans that agree as far as their counts reach get the same number of a pass, and the same column
--   same-totals, same-totals-column    and so of the totals
use Rattle.std.specs.Prelude.{◌≡◌, List, ℕ, ℤ}
use Rattle.std.proofs.Math.Path.{refl}
use Rattle.plan.specs.declared.types.Plan.{Plan}
use Rattle.plan.specs.Check.{with_plan}
use Rattle.plan.proofs.Laws.Alike.{Alike, same-refused as same-plan-refused, same-factors}
use Rattle.columns.specs.Refusals.{wrong_length}
use Rattle.columns.specs.Laws.Alike.{same-readings}
use Rattle.yates.specs.Calls.{pass_refused, pass_column, totals_refused, totals_column}

module _ {p q : Plan} (a : Alike p q) where
  pub same-pass : (f : ℕ) (xs : List ℤ) → pass_refused p f xs ≡ pass_refused q f xs
  unfolding pass_refused with_plan wrong_length
  same-pass f xs = rw (same-plan-refused a, same-factors a, a.k) refl

  pub same-pass-column : (f : ℕ) (xs : List ℤ) → pass_column p f xs ≡ pass_column q f xs
  unfolding pass_column
  same-pass-column f xs = rw (same-pass f xs, same-factors a) refl

  pub same-totals : (readings totals : List ℤ) → totals_refused p readings totals ≡ totals_refused q readings totals
  same-totals readings totals = same-readings a readings totals

  pub same-totals-column : (readings totals : List ℤ) → totals_column p readings totals ≡ totals_column q readings totals
  unfolding totals_column
  same-totals-column readings totals = rw (same-totals readings totals, same-factors a, a.repeats) refl

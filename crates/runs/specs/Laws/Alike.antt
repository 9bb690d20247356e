-- Places beyond a plan's counts are ignored by the run call too.
--
--   same-refused, same-values    plans that agree as far as their counts reach get the same answer
use Rattle.std.specs.Prelude.{◌≡◌, ℕ}
use Rattle.std.proofs.Math.Path.{refl}
use Rattle.plan.specs.declared.types.Plan.{Plan}
use Rattle.plan.specs.Check.{with_plan}
use Rattle.plan.proofs.Laws.Alike.{Alike, same-refused as same-plan-refused, same-factors}
use Rattle.runs.specs.Run.{run_refused, run_values}

module _ {p q : Plan} (a : Alike p q) (r : ℕ) where
  pub same-refused : run_refused p r ≡ run_refused q r
  unfolding run_refused with_plan
  same-refused = rw (same-plan-refused a, same-factors a) refl

  pub same-values : run_values p r ≡ run_values q r
  same-values = rw (a.words, a.signs, a.blockwords, a.numbers, same-factors a, a.levels, a.k) refl

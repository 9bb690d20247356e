use mathlib.Core.Path.{◌∙◌}
use Rattle.algebra.proofs.Laws.Machine.{kept}
use Rattle.repeats.proofs.Put.{putting-none, putting-more, putting-all, run-there}
use Rattle.repeats.proofs.sums.put_sums.Goals as goal

pub loop-run-init : goal.loop-run-init
loop-run-init c = putting-none _ _ _

pub run_sum-requires : goal.run_sum-requires
run_sum-requires c = run-there c.requires c.loop-run-test.true

pub loop-run-preserved : goal.loop-run-preserved
loop-run-preserved c = putting-more c.loop-run.invariant c.loop-run-test.true (kept _ c.run_sum.type_inv ∙ c.run_sum.ensures)

pub returns : goal.returns
returns c = putting-all c.loop-run.invariant c.loop-run-test.false

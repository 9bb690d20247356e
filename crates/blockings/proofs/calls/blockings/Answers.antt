use Rattle.std.proofs.Common.{sym}
use Rattle.blockings.specs.Blockings.{blockings_column}
use Rattle.blockings.proofs.Judging.{admitted, answered}
use Rattle.blockings.proofs.calls.blockings.Goals as goal

pub write-requires : goal.write-requires
unfolding blockings_column
write-requires c = admitted _ _ _ (sym c.in_ok-check_blockings.ensures)

pub returns-clause-column_after : goal.returns-clause-column_after
returns-clause-column_after c = (answered _ _ _ (sym c.in_ok-check_blockings.ensures) c.write.ensures.value c.write.ensures.column_after).1

pub returns-clause-result_value : goal.returns-clause-result_value
returns-clause-result_value c = (answered _ _ _ (sym c.in_ok-check_blockings.ensures) c.write.ensures.value c.write.ensures.column_after).0

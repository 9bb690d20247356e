use Rattle.estimates.proofs.Division.{number-held, power-held, divided}
use Rattle.estimates.proofs.quotients.scaled.Goals as goal

pub int_to_float-result : goal.int_to_float-result
int_to_float-result c = number-held c.ranges.total c.requires

pub int_to_float-result-2 : goal.int_to_float-result-2
int_to_float-result-2 c = power-held c.ranges.total c.requires

pub returns : goal.returns
returns c = divided c.ranges.total c.requires

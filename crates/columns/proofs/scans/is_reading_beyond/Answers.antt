use Rattle.columns.proofs.Searched.{turned-fits, either_way}
use Rattle.columns.proofs.scans.is_reading_beyond.Goals as goal

pub overflow_sub-result : goal.overflow_sub-result
overflow_sub-result c = turned-fits c.args.limit c.requires

pub returns : goal.returns
returns c = either_way c.args.limit c.ranges.x c.requires

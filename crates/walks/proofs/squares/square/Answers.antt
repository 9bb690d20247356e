use Rattle.algebra.proofs.Laws.Machine.{square-fits, square-held, square-is}
use Rattle.walks.proofs.squares.square.Goals as goal

pub overflow_mul-result : goal.overflow_mul-result
overflow_mul-result c = square-fits c.args.x c.requires.square-fits

pub overflow_cast-result : goal.overflow_cast-result
overflow_cast-result c = square-held c.args.x c.requires.square-fits

pub returns : goal.returns
returns c = square-is c.args.x c.requires.square-fits

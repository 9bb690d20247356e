use Rattle.algebra.specs.Laws.Signs.{turned-fits, turned-held, turned-is, upright-held, upright-is}
use Rattle.columns.proofs.bits.magnitude.Goals as goal

pub overflow_sub-result : goal.overflow_sub-result
overflow_sub-result c = turned-fits c.ranges.x c.if-x-lt0.true

pub overflow_cast-result : goal.overflow_cast-result
overflow_cast-result c = turned-held c.ranges.x c.if-x-lt0.true

pub overflow_cast-result-else-x-lt0 : goal.overflow_cast-result-else-x-lt0
overflow_cast-result-else-x-lt0 c = upright-held c.ranges.x c.if-x-lt0.false

pub returns-then-x-lt0 : goal.returns-then-x-lt0
returns-then-x-lt0 c = turned-is c.ranges.x c.if-x-lt0.true

pub returns-else-x-lt0 : goal.returns-else-x-lt0
returns-else-x-lt0 c = upright-is c.ranges.x c.if-x-lt0.false

use Rattle.blocks.proofs.Apart.{difference-fits, difference-squarable, difference-squared}
use Rattle.blocks.proofs.amounts.squared_difference.Goals as goal

pub overflow_sub-one : goal.overflow_sub-one
overflow_sub-one c = difference-fits c.requires.0 c.requires.1

pub square-requires : goal.square-requires
square-requires c = difference-squarable c.requires.0 c.requires.1

pub returns : goal.returns
returns c = difference-squared c.requires.0 c.requires.1 c.square.ensures

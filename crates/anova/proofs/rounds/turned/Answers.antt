use Rattle.contrasts.proofs.Laws.Rounds.{triple-fits, drop-fits, round-fits, round_is}
use Rattle.anova.proofs.rounds.turned.Goals as goal

pub overflow_mul-result : goal.overflow_mul-result
overflow_mul-result c = triple-fits c.requires.0

pub overflow_sub-result : goal.overflow_sub-result
overflow_sub-result c = search (drop-fits, c.requires.0, c.requires.1, c.requires.2)

pub overflow_add-result : goal.overflow_add-result
overflow_add-result c = search (round-fits, c.requires.0, c.requires.1, c.requires.2)

pub returns : goal.returns
returns c = round_is c.requires.0 c.requires.1 c.requires.2

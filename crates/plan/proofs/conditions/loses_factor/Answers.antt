use Rattle.std.proofs.Common.{rules, arith}
use Rattle.plan.specs.Check.{loses_factor, factor_word}
use Rattle.plan.proofs.conditions.loses_factor.Goals as goal

pub returns : goal.returns
unfolding loses_factor
returns c = c.some_combination.ensures.few (omega arith) (λ word. factor_word word c.args.added.now) (λ word answer p. search rules)

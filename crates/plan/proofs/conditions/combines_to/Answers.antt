use Rattle.std.proofs.Common.{rules, arith, eqb}
use Rattle.plan.specs.Plan.{combines_to}
use Rattle.plan.proofs.conditions.combines_to.Goals as goal

pub returns : goal.returns
unfolding combines_to
returns c = c.some_combination.ensures.few (omega arith) (λ other. eqb other c.args.word) (λ other answer p. search rules)

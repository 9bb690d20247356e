use Rattle.std.proofs.Common.{rules, arith, sym, ◌∙◌, length}
use Rattle.plan.proofs.Laws.Combinations.{few-choices, all-choices, trying, try-more, tried, tried-all}
use Rattle.plan.proofs.combinations.some_combination.Goals as goal

pub loop-choice-init : goal.loop-choice-init
loop-choice-init g c f is = trying

pub returns-then-test-clause-few : goal.returns-then-test-clause-few
returns-then-test-clause-few g c few f is =
    let one = few-choices (length c.args.words.now) c.loop-choice.choice (omega arith) in
    tried (c.loop-choice.invariant f is) one.1 (rw (← c.combine.ensures) (sym (is c.combine.result c.test.result (search rules)) ∙ c.if-test.true))

pub returns-then-test-clause-many : goal.returns-then-test-clause-many
returns-then-test-clause-many g c many =
    let one = few-choices (length c.args.words.now) c.loop-choice.choice (omega arith) in
    absurd (omega (arith, one.0, many))

pub loop-choice-preserved : goal.loop-choice-preserved
loop-choice-preserved g c f is =
    let one = few-choices (length c.args.words.now) c.loop-choice.choice (omega arith) in
    try-more (c.loop-choice.invariant f is) one.1 (rw (← c.combine.ensures) (sym (is c.combine.result c.test.result (search rules)) ∙ c.if-test.false))

pub returns-clause-few : goal.returns-clause-few
returns-clause-few g c few f is =
    tried-all (c.loop-choice.invariant f is) (all-choices (length c.args.words.now) c.loop-choice.choice few (omega arith))

use Rattle.std.proofs.Common.{◌≡◌, sym}
use Rattle.contrasts.specs.Limits.{value_limit}
use Rattle.contrasts.proofs.Laws.Levels.{the-three, as-two, as-three}
use Rattle.plan.proofs.Laws.Answers.{completed}
use Rattle.plan.proofs.Laws.Sizes.{plan-kind}
use Rattle.columns.specs.Laws.Admitted.{Columns, admitted}
use Rattle.steps.specs.Step.{step_refused, step_column}
use Rattle.steps.proofs.Called.{step-ready, step-made}
use Rattle.steps.proofs.sets.step.Goals as goal

pub step_two-requires : goal.step_two-requires
unfolding step_column
step_two-requires c =
    let none : step_refused c.args.p c.args.from.now c.args.to.now ≡ 0 = sym c.in_ok-check_values.ensures in
    let fit : Columns value_limit c.args.p c.args.from.now c.args.to.now = admitted _ _ _ _ none in
    step-ready fit c.if-p-eq2.true

pub step_three-requires : goal.step_three-requires
unfolding step_column
step_three-requires c =
    let none : step_refused c.args.p c.args.from.now c.args.to.now ≡ 0 = sym c.in_ok-check_values.ensures in
    let fit : Columns value_limit c.args.p c.args.from.now c.args.to.now = admitted _ _ _ _ none in
    step-ready fit (the-three _ (plan-kind _ fit.plan) c.if-p-eq2.false)

pub returns-then-p-eq2 : goal.returns-then-p-eq2
unfolding step_column
returns-then-p-eq2 c =
    let none : step_refused c.args.p c.args.from.now c.args.to.now ≡ 0 = sym c.in_ok-check_values.ensures in
    let fit : Columns value_limit c.args.p c.args.from.now c.args.to.now = admitted _ _ _ _ none in
    let all = completed tt _ _ none (step-made fit c.if-p-eq2.true (as-two _ c.if-p-eq2.true) c.step_two.ensures) in
    record { result_value = all.0; to_after = all.1 }

pub returns-else-p-eq2 : goal.returns-else-p-eq2
unfolding step_column
returns-else-p-eq2 c =
    let none : step_refused c.args.p c.args.from.now c.args.to.now ≡ 0 = sym c.in_ok-check_values.ensures in
    let fit : Columns value_limit c.args.p c.args.from.now c.args.to.now = admitted _ _ _ _ none in
    let three = the-three _ (plan-kind _ fit.plan) c.if-p-eq2.false in
    let all = completed tt _ _ none (step-made fit three (as-three _ c.if-p-eq2.false) c.step_three.ensures) in
    record { result_value = all.0; to_after = all.1 }

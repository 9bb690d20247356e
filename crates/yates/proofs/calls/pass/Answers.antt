use Rattle.std.proofs.Common.{◌≡◌, sym}
use Rattle.plan.proofs.Laws.Answers.{completed}
use Rattle.yates.specs.Calls.{pass_refused, pass_column}
use Rattle.yates.specs.Laws.Admitted.{pass-admitted}
use Rattle.yates.proofs.Called.{pass-ready, pass-made}
use Rattle.yates.proofs.calls.pass.Goals as goal

pub pass_over-requires : goal.pass_over-requires
pass_over-requires c = pass-ready (pass-admitted _ _ _ (sym c.in_ok-check_pass.ensures)) c.spacing.ensures

pub returns : goal.returns
unfolding pass_column
returns c =
    let none : let args = c.args in pass_refused args.p args.factor args.column.now ≡ 0 = sym c.in_ok-check_pass.ensures in
    let all = completed tt _ _ none (pass-made (pass-admitted _ _ _ none) c.spacing.ensures c.pass_over.ensures) in
    record { result_value = all.0; column_after = all.1 }

use Rattle.std.proofs.Common.{◌≡◌, refl, sym, rules}
use Rattle.std.specs.Prelude.{Err}
use Rattle.facts.proofs.Answered.{run-stopped, run-refused, run-given}
use Rattle.facts.proofs.plans.run.Goals as goal

pub returns-in_err-p : goal.returns-in_err-p
returns-in_err-p c =
    let first : c.from_residual.result ≡ Err c.in_err-p.field-0.0 = search rules in
    let all = run-stopped _ _ _ _ _ c.in_err-p.ensures.number in
    record { value = rw first all.0; high_after = all.1.0; block_after = all.1.1 }

pub returns-in_err-run : goal.returns-in_err-run
returns-in_err-run c =
    let first : c.from_residual-in_err-run.result ≡ Err c.in_err-run.field-0.0 = search rules in
    let all = run-refused _ _ _ _ (sym c.in_ok-p.ensures.number) c.in_ok-p.ensures.plan _ c.in_err-run.ensures in
    record { value = rw first all.0; high_after = all.1.0; block_after = all.1.1 }

pub returns : goal.returns
returns c =
    let all = run-given _ _ _ _ (sym c.in_ok-p.ensures.number) c.in_ok-p.ensures.plan c.in_ok-run.ensures in
    record { value = all.0; high_after = all.1.0; block_after = all.1.1 }

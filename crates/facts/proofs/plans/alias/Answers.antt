use Rattle.std.proofs.Common.{◌≡◌, refl, sym, rules}
use Rattle.std.specs.Prelude.{Err}
use Rattle.facts.proofs.Answered.{alias-stopped, alias-refused, alias-given}
use Rattle.facts.proofs.plans.alias.Goals as goal

pub returns-in_err-p : goal.returns-in_err-p
returns-in_err-p c =
    let first : c.from_residual.result ≡ Err c.in_err-p.field-0.0 = search rules in
    let all = alias-stopped _ _ _ _ _ c.in_err-p.ensures.number in
    record { value = rw first all.0; word_after = all.1.0; turned_after = all.1.1 }

pub returns-in_err-alias : goal.returns-in_err-alias
returns-in_err-alias c =
    let first : c.from_residual-in_err-alias.result ≡ Err c.in_err-alias.field-0.0 = search rules in
    let all = alias-refused _ _ _ _ (sym c.in_ok-p.ensures.number) c.in_ok-p.ensures.plan _ c.in_err-alias.ensures in
    record { value = rw first all.0; word_after = all.1.0; turned_after = all.1.1 }

pub returns : goal.returns
returns c =
    let all = alias-given _ _ _ _ (sym c.in_ok-p.ensures.number) c.in_ok-p.ensures.plan c.in_ok-alias.ensures c.from.ensures in
    record { value = all.0; word_after = all.1.0; turned_after = all.1.1 }

use Rattle.std.proofs.Common.{◌≡◌, rules, refl, sym, eq-eqb, ne_eqb}
use Rattle.std.specs.Prelude.{Err}
use Rattle.plan.specs.Check.{plan_refused}
use Rattle.plan.proofs.Laws.Answers.{plan_stops, after-plan}
use Rattle.columns.specs.Refusals.{lengths_refused}
use Rattle.columns.specs.Laws.Lengths.{wrong, right}
use Rattle.columns.proofs.refusals.check_lengths.Goals.{then-read-count-via-then-read-count, then-read-count-via-else-read-count+then-written-runs}
use Rattle.columns.proofs.refusals.check_lengths.Goals as goal

pub returns-in_err-check : goal.returns-in_err-check
unfolding lengths_refused
returns-in_err-check c =
    let first : c.from_residual.result ≡ Err c.in_err-check.field-0.0 = search rules in
    rw first (plan_stops _ _ _ c.in_err-check.ensures.number)

pub returns-then-read-count : goal.returns-then-read-count
unfolding lengths_refused
returns-then-read-count c =
    let accepted : plan_refused c.args.p ≡ 0 = sym c.in_ok-check.ensures.number in
    elim c.then-read-count.branch [
      | then-read-count-via-then-read-count w ↦ rw (after-plan _ _ accepted, ne_eqb _ _ w.if-read-count.true) refl
      | then-read-count-via-else-read-count+then-written-runs w ↦
          rw (after-plan _ _ accepted, eq-eqb _ _ w.if-read-count.false, wrong _ accepted w.runs.ensures _ w.if-written-runs.true) refl
    ]

pub returns : goal.returns
unfolding lengths_refused
returns c =
    let accepted : plan_refused c.args.p ≡ 0 = sym c.in_ok-check.ensures.number in
    rw (after-plan _ _ accepted, eq-eqb _ _ c.if-read-count.false, right _ accepted c.runs.ensures _ c.if-written-runs.false) refl

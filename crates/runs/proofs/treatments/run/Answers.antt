use Rattle.std.proofs.Common.{◌≡◌, ◌≤◌, ◌^◌, refl, sym, ◌∙◌, arith}
use borrow.Author.Tests.{le-leb, lt-leb}
use Rattle.plan.specs.Check.{plan_refused}
use Rattle.plan.specs.Plan.{runs_of}
use Rattle.plan.proofs.Laws.Accepted.{sizes}
use Rattle.plan.proofs.Laws.Sizes.{run-count, runs-two, two-levels}
use Rattle.runs.specs.Laws.High.{values-two}
use Rattle.runs.specs.Laws.ThreeBlocks.{run-three, values-three}
use Rattle.runs.proofs.treatments.run.Goals as goal

pub returns-then-runs-number : goal.returns-then-runs-number
returns-then-runs-number c =
    let p = c.args.p in
    let accepted : plan_refused p ≡ 0 = sym c.in_ok-check.ensures.number in
    let beyond : runs_of p ≤ c.args.number = omega (arith, c.runs.ensures, run-count p accepted) in
    rw (run-three p c.args.number accepted, le-leb (runs_of p) c.args.number beyond) refl

pub returns-then-p-eq3 : goal.returns-then-p-eq3
returns-then-p-eq3 c =
    let p = c.args.p in
    let accepted : plan_refused p ≡ 0 = sym c.in_ok-check.ensures.number in
    let runs-are = c.runs.ensures ∙ run-count p accepted in
    rw (run-three p c.args.number accepted, lt-leb (runs_of p) c.args.number (omega (arith, runs-are)), values-three p c.if-p-eq3.true c.args.number, c.three_treatment.ensures) refl

pub treatment-requires : goal.treatment-requires
treatment-requires c =
    let p = c.args.p in
    let accepted : plan_refused p ≡ 0 = sym c.in_ok-check.ensures.number in
    let power = runs-two p (two-levels p accepted c.if-p-eq3.false) in
    (omega (arith, c.runs.ensures, run-count p accepted, power), (sizes p accepted).0)

pub returns : goal.returns
returns c =
    let p = c.args.p in
    let accepted : plan_refused p ≡ 0 = sym c.in_ok-check.ensures.number in
    let runs-are = c.runs.ensures ∙ run-count p accepted in
    rw (run-three p c.args.number accepted, lt-leb (runs_of p) c.args.number (omega (arith, runs-are)), values-two p c.args.number c.if-p-eq3.false, c.treatment.ensures) refl

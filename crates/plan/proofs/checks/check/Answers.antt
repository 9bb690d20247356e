use Rattle.std.proofs.Common.{◌≡◌, rules, refl, sym, ap, ◌∙◌}
use Rattle.std.specs.Prelude.{Ok, Err}
use Rattle.algebra.specs.Laws.Tests.{is}
use Rattle.plan.specs.declared.refusals.Refusal.TheVariants as refusal
use Rattle.plan.specs.Plan.{runs_of}
use Rattle.plan.specs.Outcome.{lowest}
use Rattle.plan.specs.Check.{bad_repeats, two_to_eight}
use Rattle.plan.proofs.Laws.Accepted.{before-repeats, AfterWords, after-words}
use Rattle.plan.proofs.Laws.Answers.{number_some, by_number}
use Rattle.plan.proofs.Laws.Sizes.{runs-within, count-is}
use Rattle.plan.proofs.checks.check.Goals as goal

pub returns-in_err-check_once-clause-number : goal.returns-in_err-check_once-clause-number
returns-in_err-check_once-clause-number c =
    let first : c.from_residual.result ≡ Err c.in_err-check_once.field-0.0 = search rules in
    rw first (before-repeats _ c.in_err-check_once.ensures (number_some _))

pub returns-in_err-check_once-clause-result_value : goal.returns-in_err-check_once-clause-result_value
returns-in_err-check_once-clause-result_value c = by_number _ (returns-in_err-check_once-clause-number c)

pub bad_repeats-requires : goal.bad_repeats-requires
bad_repeats-requires c = rw c.runs.ensures (runs-within _)

pub returns-then-bad_repeats-clause-number : goal.returns-then-bad_repeats-clause-number
returns-then-bad_repeats-clause-number c =
    let none : lowest (two_to_eight c.args.p) ≡ 0 = search rules in
    let past : AfterWords c.args.p = after-words _ none in
    let runs-is = c.runs.ensures ∙ count-is _ past.levels past.factors in
    let by-repeats : let p = c.args.p in c.bad_repeats.result ≡ bad_repeats (runs_of p) p.repeats =
    c.bad_repeats.ensures ∙ ap (λ n. bad_repeats n c.args.p.repeats) runs-is in
    sym (past.decided ∙ rw (is by-repeats c.if-bad_repeats.true) refl)

pub returns-then-bad_repeats-clause-result_value : goal.returns-then-bad_repeats-clause-result_value
returns-then-bad_repeats-clause-result_value c = by_number (Err refusal.Repeats) (returns-then-bad_repeats-clause-number c)

pub returns-clause-number : goal.returns-clause-number
returns-clause-number c =
    let none : lowest (two_to_eight c.args.p) ≡ 0 = search rules in
    let past : AfterWords c.args.p = after-words _ none in
    let runs-is = c.runs.ensures ∙ count-is _ past.levels past.factors in
    let by-repeats : let p = c.args.p in c.bad_repeats.result ≡ bad_repeats (runs_of p) p.repeats =
    c.bad_repeats.ensures ∙ ap (λ n. bad_repeats n c.args.p.repeats) runs-is in
    sym (past.decided ∙ rw (is by-repeats c.if-bad_repeats.false) refl)

pub returns-clause-result_value : goal.returns-clause-result_value
returns-clause-result_value c = by_number (Ok tt) (returns-clause-number c)

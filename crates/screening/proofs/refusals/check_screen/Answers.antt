use Rattle.std.proofs.Common.{◌≡◌, rules, arith, sym, length-take-le}
use Rattle.std.specs.Prelude.{Err}
use Rattle.algebra.specs.Laws.Tests.{is}
use Rattle.plan.specs.Check.{plan_refused}
use Rattle.plan.proofs.Laws.Accepted.{sizes}
use Rattle.plan.proofs.Laws.Answers.{plan_stops}
use Rattle.screening.specs.Screening.{screen_refused}
use Rattle.screening.proofs.Judging.{formed, judged_meet, judged_marked, meeting, three_levels, table_stops, by_main}
use Rattle.screening.proofs.refusals.check_screen.Goals as goal

pub returns-in_err-check : goal.returns-in_err-check
unfolding screen_refused
returns-in_err-check c =
    let first : c.from_residual.result ≡ Err c.in_err-check.field-0.0 = search rules in
    rw first (plan_stops _ _ _ c.in_err-check.ensures.number)

pub main_words-factors-requires : goal.main_words-factors-requires
main_words-factors-requires c =
    let accepted : plan_refused c.args.p ≡ 0 = sym c.in_ok-check.ensures.number in
    (rw c.from-k.ensures (sizes _ accepted).0, c.added_words-words.ensures.few)

pub returns-then-any_met : goal.returns-then-any_met
returns-then-any_met c =
    let accepted : plan_refused c.args.p ≡ 0 = sym c.in_ok-check.ensures.number in
    let factors = formed c.args.p _ _ _ c.from-k.ensures c.added_words-words.ensures.value c.main_words-factors.ensures in
    let meets = judged_meet c.args.p factors c.any_met.ensures in
    meeting _ accepted _ _ _ _ (is meets c.if-any_met.true)

pub returns-then-three_levels : goal.returns-then-three_levels
returns-then-three_levels c =
    let accepted : plan_refused c.args.p ≡ 0 = sym c.in_ok-check.ensures.number in
    let factors = formed c.args.p _ _ _ c.from-k.ensures c.added_words-words.ensures.value c.main_words-factors.ensures in
    let meets = judged_meet c.args.p factors c.any_met.ensures in
    three_levels _ accepted _ _ _ _ (is meets c.if-any_met.false) c.if-three_levels.true

pub returns-in_err-check_table : goal.returns-in_err-check_table
returns-in_err-check_table c =
    let accepted : plan_refused c.args.p ≡ 0 = sym c.in_ok-check.ensures.number in
    let factors = formed c.args.p _ _ _ c.from-k.ensures c.added_words-words.ensures.value c.main_words-factors.ensures in
    let meets = judged_meet c.args.p factors c.any_met.ensures in
    let first : c.from_residual-in_err-check_table.result ≡ Err c.in_err-check_table.field-0.0 = search rules in
    rw first (table_stops _ accepted _ _ _ _ (is meets c.if-any_met.false) c.if-three_levels.false _ c.in_err-check_table.ensures)

pub returns-then-any_marked : goal.returns-then-any_marked
returns-then-any_marked c =
    let accepted : plan_refused c.args.p ≡ 0 = sym c.in_ok-check.ensures.number in
    let factors = formed c.args.p _ _ _ c.from-k.ensures c.added_words-words.ensures.value c.main_words-factors.ensures in
    let meets = judged_meet c.args.p factors c.any_met.ensures in
    let marks = judged_marked c.args.p factors c.args.marks.now c.any_marked.ensures in
    by_main _ accepted _ _ _ _ (is meets c.if-any_met.false) c.if-three_levels.false c.in_ok-check_table.ensures (is marks c.if-any_marked.true)

pub returns : goal.returns
returns c =
    let accepted : plan_refused c.args.p ≡ 0 = sym c.in_ok-check.ensures.number in
    let factors = formed c.args.p _ _ _ c.from-k.ensures c.added_words-words.ensures.value c.main_words-factors.ensures in
    let meets = judged_meet c.args.p factors c.any_met.ensures in
    let marks = judged_marked c.args.p factors c.args.marks.now c.any_marked.ensures in
    by_main _ accepted _ _ _ _ (is meets c.if-any_met.false) c.if-three_levels.false c.in_ok-check_table.ensures (is marks c.if-any_marked.false)

pub slice_bounds-factors-end : goal.slice_bounds-factors-end
slice_bounds-factors-end c =
    let accepted : plan_refused c.args.p ≡ 0 = sym c.in_ok-check.ensures.number in
    omega (arith, c.from-k.ensures, (sizes _ accepted).0, c.added_words-words.ensures.few)

pub slice_bounds-mains-end : goal.slice_bounds-mains-end
slice_bounds-mains-end c =
    let accepted : plan_refused c.args.p ≡ 0 = sym c.in_ok-check.ensures.number in
    sym (length-take-le _ _ (omega (arith, c.from-k.ensures, (sizes _ accepted).0, c.added_words-words.ensures.few)))

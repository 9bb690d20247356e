use Rattle.std.proofs.Common.{◌*◌, ◌<◌, sym, ◌∙◌, arith, lit<, length}
use Rattle.walks.proofs.Walked.{pairs-none, pairs-more, pairs-all, two-places, held-places, two-long, two-gatherable, two_fits, brings-two, two-more, second-there, first-half, second-half}
use Rattle.walks.proofs.two_levels.walk_two.Goals as goal

pub loop-pair-init : goal.loop-pair-init
loop-pair-init c = pairs-none c.requires

pub slice_bounds-bring_two-end : goal.slice_bounds-bring_two-end
slice_bounds-bring_two-end c = sym (two-places c.requires c.loop-pair.invariant)

pub bring_two-requires : goal.bring_two-requires
bring_two-requires c = brings-two c.requires c.loop-pair.invariant.holding (omega arith) 0 (lit< tt)

pub overflow_add-sum : goal.overflow_add-sum
overflow_add-sum c = two_fits c.requires c.loop-pair.invariant.holding (omega arith)

pub slice_bounds-bring_two-end-in-loop-pair : goal.slice_bounds-bring_two-end-in-loop-pair
slice_bounds-bring_two-end-in-loop-pair c =
    let pre = c.requires in
    let running = c.loop-pair.invariant in
    let low : 2 * c.loop-pair.pair < length c.args.totals.now = omega arith in
    let between = two-more pre running.holding low 0 (first-half pre running) (c.bring_two.ensures.rows_after, c.bring_two.ensures.parts_after) in
    sym (held-places pre between (second-there pre running low))

pub bring_two-requires-in-loop-pair : goal.bring_two-requires-in-loop-pair
bring_two-requires-in-loop-pair c =
    let pre = c.requires in
    let running = c.loop-pair.invariant in
    let low : 2 * c.loop-pair.pair < length c.args.totals.now = omega arith in
    let between = two-more pre running.holding low 0 (first-half pre running) (c.bring_two.ensures.rows_after, c.bring_two.ensures.parts_after) in
    brings-two pre between (second-there pre running low) 1 (lit< tt)

pub overflow_add-sum-in-loop-pair : goal.overflow_add-sum-in-loop-pair
overflow_add-sum-in-loop-pair c =
    let pre = c.requires in
    let running = c.loop-pair.invariant in
    let low : 2 * c.loop-pair.pair < length c.args.totals.now = omega arith in
    let between = two-more pre running.holding low 0 (first-half pre running) (c.bring_two.ensures.rows_after, c.bring_two.ensures.parts_after) in
    two_fits pre between (second-there pre running low)

pub loop-pair-preserved : goal.loop-pair-preserved
loop-pair-preserved c =
    let pre = c.requires in
    let running = c.loop-pair.invariant in
    let low : 2 * c.loop-pair.pair < length c.args.totals.now = omega arith in
    let inside = second-there pre running low in
    let between = two-more pre running.holding low 0 (first-half pre running) (c.bring_two.ensures.rows_after, c.bring_two.ensures.parts_after) in
    pairs-more pre running low (omega arith)
    (two-more pre between inside 1 (second-half pre running) (c.bring_two-in-loop-pair.ensures.rows_after, c.bring_two-in-loop-pair.ensures.parts_after))

pub slice_bounds-gather-end : goal.slice_bounds-gather-end
slice_bounds-gather-end c = sym (two-places c.requires c.loop-pair.invariant)

pub gather-requires : goal.gather-requires
gather-requires c = two-gatherable c.requires c.loop-pair.invariant

pub shape_of-rows : goal.shape_of-rows
shape_of-rows c = two-long c.requires c.loop-pair.invariant

pub returns : goal.returns
returns c =
    let walked = pairs-all c.requires c.loop-pair.invariant (omega arith) in
    record { sums-are = c.gather.ensures ∙ walked.sums-are; rows_are = walked.rows_are }

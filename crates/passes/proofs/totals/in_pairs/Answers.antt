use Rattle.std.proofs.Common.{◌≡◌, ◌+◌, ◌*◌, ◌∙◌, refl, arith}
use Rattle.passes.proofs.Formed.{all-ready, all_more, all_done, two_ready, two_fits, two-more, first-ready, first_more}
use Rattle.passes.proofs.totals.in_pairs.Goals as goal

pub put_first-requires : goal.put_first-requires
put_first-requires g c = first-ready c.requires g.met.L.Level.square

pub loop-pair-init : goal.loop-pair-init
loop-pair-init g c =
    rw c.SET-set.ensures (first_more c.requires g.met.L.Level.square (c.put_first.ensures ∙ rw g.met.L.Level.kind refl))

pub both_over-requires : goal.both_over-requires
both_over-requires g c =
    two_ready c.requires.readings g.met.L.Level.square c.loop-pair.invariant (omega (arith, c.loop-pair-test.true))

pub overflow_mul-spacing : goal.overflow_mul-spacing
overflow_mul-spacing g c =
    let fits = two_fits c.requires.readings g.met.L.Level.square c.loop-pair.invariant (omega (arith, c.loop-pair-test.true)) in
    rw c.SET-set.ensures (omega (arith, fits))

pub loop-pair-preserved : goal.loop-pair-preserved
loop-pair-preserved g c =
    let places : 2 * c.loop-pair._pair + 2 ≡ 2 * (c.loop-pair._pair + 1) = omega arith in
    rw (c.SET-set.ensures, ← places)
    (two-more c.requires.readings g.met.L.Level.square c.loop-pair.invariant (omega (arith, c.loop-pair-test.true))
    (c.both_over.ensures ∙ rw g.met.L.Level.kind refl))

pub column_over-requires : goal.column_over-requires
column_over-requires g c =
    all-ready c.requires.readings c.loop-pair.invariant (omega (arith, c.loop-pair.invariant.some, c.loop-pair-test.false, c.if-k-eq1.true))

pub returns-then-k-eq1 : goal.returns-then-k-eq1
returns-then-k-eq1 g c =
    let last = all_more c.requires.readings c.loop-pair.invariant
    (omega (arith, c.loop-pair.invariant.some, c.loop-pair-test.false, c.if-k-eq1.true)) c.column_over.ensures in
    all_done c.requires.readings last (omega (arith, c.loop-pair-test.false))

pub returns-else-k-eq1 : goal.returns-else-k-eq1
returns-else-k-eq1 g c = all_done c.requires.readings c.loop-pair.invariant (omega (arith, c.loop-pair-test.false, c.if-k-eq1.false))

use Rattle.std.proofs.Common.{◌+◌, ◌*◌, refl, sym, arith}
use Rattle.blocks.proofs.Added.{three-long, adding-none, adding-more, some-factor, set-ready, value-held, sum_back, sum-sized, amount-made, whole-sets}
use Rattle.blocks.proofs.amounts.block_amount.Goals as goal

pub loop-set-init : goal.loop-set-init
loop-set-init c = adding-none _ _ _

pub overflow_sub-k : goal.overflow_sub-k
overflow_sub-k c = omega (arith, some-factor c.requires)

pub slice_bounds-add_set-end : goal.slice_bounds-add_set-end
slice_bounds-add_set-end c = sym (three-long c.loop-set.invariant)

pub add_set-requires : goal.add_set-requires
add_set-requires c =
    let pre = c.requires in
    let run = 3 * c.loop-set.set in
    rw (value-held pre run, value-held pre (run + 1), value-held pre (run + 2))
    (set-ready pre c.loop-set.invariant (omega arith) c.loop-set.set refl c.three_block-block.ensures refl)

pub loop-set-preserved : goal.loop-set-preserved
loop-set-preserved c =
    let pre = c.requires in
    let run = 3 * c.loop-set.set in
    rw (c.add_set.ensures, value-held pre run, value-held pre (run + 1), value-held pre (run + 2))
    (adding-more pre c.loop-set.invariant (omega arith) c.loop-set.set refl c.three_block-block.ensures refl (omega arith))

pub bounds-sums-0 : goal.bounds-sums-0
bounds-sums-0 c = omega (arith, three-long c.loop-set.invariant)

pub bounds-sums-1 : goal.bounds-sums-1
bounds-sums-1 c = omega (arith, three-long c.loop-set.invariant)

pub bounds-sums-2 : goal.bounds-sums-2
bounds-sums-2 c = omega (arith, three-long c.loop-set.invariant)

pub amount-requires : goal.amount-requires
amount-requires c =
    let pre = c.requires in
    let inv = c.loop-set.invariant in
    (pre.few, sum-sized pre inv 0, sum-sized pre inv 1, sum-sized pre inv 2)

pub returns : goal.returns
returns c =
    let pre = c.requires in
    let inv = c.loop-set.invariant in
    amount-made pre inv (omega (arith, whole-sets pre)) (sum_back pre inv 0) (sum_back pre inv 1) (sum_back pre inv 2) c.amount.ensures

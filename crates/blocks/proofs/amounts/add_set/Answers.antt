use mathlib.Core.Path.{◌≡◌, refl, ◌∙◌, ap}
use Prim.Native.Nat.{◌+◌, ◌%◌}
use native.Mathlib.Omega.{arith}
use Rattle.algebra.proofs.Laws.Machine.{kept}
use Rattle.blocks.specs.Ready.{added}
use Rattle.blocks.proofs.Added.{first-ready, second-ready, third-ready}
use Rattle.blocks.proofs.amounts.add_set.Goals as goal

pub next_block-next-requires : goal.next_block-next-requires
next_block-next-requires c = (c.requires.block, c.requires.digit)

pub next_block-last-requires : goal.next_block-last-requires
next_block-last-requires c = (omega (arith, c.next_block-next.ensures), c.requires.digit)

pub add-requires : goal.add-requires
add-requires c = rw (kept c.args.first c.ranges.first.sfits) (first-ready c.requires)

pub add-requires-2 : goal.add-requires-2
add-requires-2 c =
    let once_is : let args = c.args in c.add.new.sums ≡ added args.sums.now args.block args.first = c.add.ensures ∙ rw (kept c.args.first c.ranges.first.sfits) refl in
    rw (once_is, c.next_block-next.ensures, kept c.args.middle c.ranges.middle.sfits) (second-ready c.requires)

pub add-requires-3 : goal.add-requires-3
add-requires-3 c =
    let once_is : let args = c.args in c.add.new.sums ≡ added args.sums.now args.block args.first = c.add.ensures ∙ rw (kept c.args.first c.ranges.first.sfits) refl in
    let twice-is : let args = c.args in
    c.add-2.new.sums ≡ added (added args.sums.now args.block args.first) ((args.block + args.digit) % 3) args.middle = c.add-2.ensures ∙ rw (once_is, c.next_block-next.ensures, kept c.args.middle c.ranges.middle.sfits) refl in
    let last-is : let args = c.args in c.next_block-last.result ≡ ((args.block + args.digit) % 3 + args.digit) % 3 = c.next_block-last.ensures ∙ ap (λ n. (n + c.args.digit) % 3) c.next_block-next.ensures in
    rw (twice-is, last-is, kept c.args.third c.ranges.third.sfits) (third-ready c.requires)

pub returns : goal.returns
returns c =
    let once_is : let args = c.args in c.add.new.sums ≡ added args.sums.now args.block args.first = c.add.ensures ∙ rw (kept c.args.first c.ranges.first.sfits) refl in
    let twice-is : let args = c.args in
    c.add-2.new.sums ≡ added (added args.sums.now args.block args.first) ((args.block + args.digit) % 3) args.middle = c.add-2.ensures ∙ rw (once_is, c.next_block-next.ensures, kept c.args.middle c.ranges.middle.sfits) refl in
    let last-is : let args = c.args in c.next_block-last.result ≡ ((args.block + args.digit) % 3 + args.digit) % 3 = c.next_block-last.ensures ∙ ap (λ n. (n + c.args.digit) % 3) c.next_block-next.ensures in
    c.add-3.ensures ∙ rw (twice-is, last-is, kept c.args.third c.ranges.third.sfits) refl

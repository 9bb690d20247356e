use Rattle.std.proofs.Common.{refl, ◌≡◌, ◌+◌, arith}
use Rattle.worked.specs.Columns.{kept_from}
use Rattle.worked.proofs.Grown.{kept-more, one-more}
use Rattle.worked.proofs.columns.kept.Goals as goal

pub loop-place-init : goal.loop-place-init
unfolding kept_from
loop-place-init g c = (omega arith, λ f is. refl)

pub loop-place-preserved : goal.loop-place-preserved
loop-place-preserved g c = (
  rw c.from-n.ensures (one-more c.eq.result _ _ c.loop-place.invariant.0),
  λ f is.
      let more = kept-more g.T.PartialEq.eq f 0 c.args.column.now c.loop-place.place c.index-column-place.result c.loop-place-test.true in
      let before = c.loop-place.invariant.1 f is in
      let value = is c.loop-place.place c.before-in-loop-place.result c.before-in-loop-place.ensures in
      let here : 0 + c.loop-place.place ≡ c.loop-place.place = omega arith in
      cc,
)

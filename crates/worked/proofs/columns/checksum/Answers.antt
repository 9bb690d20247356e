use Rattle.std.proofs.Common.{rules, refl, mod-lt, ◌≡◌, ◌+◌, ◌*◌, ◌%◌, pos, unsigned_abs, arith}
use Rattle.std.proofs.lemmas.List.Sums.{fold_more}
use Rattle.std.specs.Int.{int_rem_euclid}
use Rattle.worked.specs.Columns.{checksum_of}
use Rattle.worked.proofs.columns.checksum.Goals as goal

pub loop-value-init : goal.loop-value-init
unfolding checksum_of
loop-value-init g c = (c.requires.0, λ whole is. refl)

pub loop-value-preserved : goal.loop-value-preserved
unfolding checksum_of
loop-value-preserved g c = (
  omega (arith, mod-lt),
  λ whole is.
      let before = c.loop-value.invariant.1 whole is in
      let value = is c.value-item.result c.into.result c.into.ensures in
      let more = fold_more (λ sum x. (sum * c.args.factor + unsigned_abs (int_rem_euclid (whole x) (pos c.args.modulus))) % c.args.modulus) 0 c.args.values.now c.loop-value.value-index c.value-item.result c.loop-value-test.true in
      let rest : c.unsigned_abs.result ≡ unsigned_abs (int_rem_euclid c.into.result (pos c.args.modulus)) = search rules in
      cc,
)

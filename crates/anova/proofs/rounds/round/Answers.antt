use mathlib.Core.Path.{refl, ◌∙◌}
use Rattle.std.proofs.lemmas.List.{length-set}
use Rattle.algebra.proofs.Laws.Machine.{kept}
use Rattle.anova.proofs.Rounded.{rounding-none, rounding-long, rounding-more, rounding-all, small-set}
use Rattle.anova.proofs.rounds.round.Goals as goal

pub loop-i-init : goal.loop-i-init
loop-i-init c = record { rounding = rounding-none c.requires; room = c.requires.whole }

pub turned-requires : goal.turned-requires
turned-requires c =
    let pre = c.requires in
    let inv = c.loop-i.invariant.rounding in
    let inside = c.loop-i-test.true in
    let first-given = c.turned-arg-1.given in
    let middle-given = c.turned-arg-in-loop-i-1.given in
    let third-given = c.turned-arg-in-loop-i-2-1.given in
    rw (kept _ first-given, kept _ middle-given, kept _ third-given) (small-set pre inv inside)

pub loop-i-preserved : goal.loop-i-preserved
loop-i-preserved c =
    let pre = c.requires in
    let inv = c.loop-i.invariant.rounding in
    let inside = c.loop-i-test.true in
    let first-given = c.turned-arg-1.given in
    let middle-given = c.turned-arg-in-loop-i-1.given in
    let third-given = c.turned-arg-in-loop-i-2-1.given in
    record {
      rounding = rounding-more pre inv inside (kept _ c.turned.type_inv ∙ c.turned.ensures ∙ rw (kept _ first-given, kept _ middle-given, kept _ third-given) refl);
      room = rw length-set c.loop-i.invariant.room;
    }

pub shape_of-column : goal.shape_of-column
shape_of-column c = rounding-long c.requires c.loop-i.invariant.rounding

pub returns : goal.returns
returns c = rounding-all c.requires c.loop-i.invariant.rounding c.loop-i-test.false

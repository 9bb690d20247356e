use Rattle.fields.proofs.Judging.{unknown, unfit, falling, onward, at_end}
use Rattle.fields.proofs.tags.any_bad_field.Goals as goal

pub returns-in_default-of : goal.returns-in_default-of
returns-in_default-of c = unknown _ c.loop-field.invariant.so c.in-Some.ensures.steps c.in_default-of.ensures

pub returns-then-here-last : goal.returns-then-here-last
returns-then-here-last c = falling _ c.loop-field.invariant.so c.in-Some.ensures.steps c.in-Some-of.ensures c.place-here.ensures c.if-here-last.true

pub returns-then-not-admits : goal.returns-then-not-admits
returns-then-not-admits c = unfit _ c.loop-field.invariant.so c.in-Some.ensures.steps c.in-Some-of.ensures c.admits.ensures c.if-not-admits.true

pub loop-field-preserved : goal.loop-field-preserved
loop-field-preserved c = record {
  can = tt;
  ends = tt;
  so = onward _ c.loop-field.invariant.so c.in-Some.ensures.steps c.in-Some-of.ensures c.place-here.ensures c.if-here-last.false
      c.admits.ensures c.if-not-admits.false;
}

pub returns : goal.returns
returns c = rw c.is_empty.ensures (at_end _ c.loop-field.invariant.so c.in_default.ensures.steps.0 _ c.in_default.ensures.steps.1)

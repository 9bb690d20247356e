use mathlib.Core.Path.{◌≡◌}
use Rattle.fields.specs.Fields.{fields_of}
use Rattle.fields.specs.Tags.{bad_from}
use Rattle.fields.proofs.tags.any_bad_field.Given as goal

abbrev pub invariant-loop-field : goal.invariant-loop-field
invariant-loop-field l =
    record {
      can : (goal.iterator-loop-field).can_next l.fields;
      ends : (goal.iterator-loop-field).is_finite l.fields;
      so : bad_from 0 (fields_of l.sheet) ≡ bad_from l.last (fields_of l.fields.rest.now);
    }

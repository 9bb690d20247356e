use Rattle.std.proofs.Common.{◌∙◌}
use mathlib.Core.Path.{refl}
use Rattle.rows.proofs.Putting.{all_kinds}
use Rattle.rows.proofs.kinds_of_rows.kinds.Goals as goal

pub returns : goal.returns
returns c = all_kinds c.args.p _ c.put_marks.ensures (c.put_combinations.ensures ∙ rw c.block_words.ensures.value refl)

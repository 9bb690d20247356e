use Rattle.columns.specs.Laws.Copies.{copied-over}
use Rattle.std.proofs.Common.{refl, ◌∙◌}
use Rattle.passes.proofs.totals.once.Goals as goal

pub all_passes-requires : goal.all_passes-requires
all_passes-requires g c = rw (copied-over _ c.requires.1 c.copy.ensures) c.requires.0

pub in_pairs-requires : goal.in_pairs-requires
in_pairs-requires g c = record { several = c.if-k-lt2.false; readings = c.requires.0; same = c.requires.1 }

pub returns-then-k-lt2 : goal.returns-then-k-lt2
returns-then-k-lt2 g c = c.all_passes.ensures ∙ rw (copied-over _ c.requires.1 c.copy.ensures) refl

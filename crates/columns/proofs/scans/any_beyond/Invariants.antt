use mathlib.Core.Path.{◌≡◌}
use lib.ListN.{take}
use Rattle.columns.specs.Refusals.{any_beyond}
use Rattle.columns.proofs.scans.any_beyond.Given as goal

abbrev pub invariant-loop-reading : goal.invariant-loop-reading
invariant-loop-reading l = l.any ≡ any_beyond l.limit (take l.reading-index l.readings)

use mathlib.Core.Path.{◌≡◌}
use lib.ListN.{length, take}
use Rattle.columns.proofs.copies.put_readings.Given as goal

abbrev pub invariant-loop-i : goal.invariant-loop-i
invariant-loop-i l = (length l.column ≡ length l.readings) × (take l.i l.column ≡ take l.i l.readings)

use mathlib.Core.Path.{◌≡◌}
use mathlib.Core.List.{map}
use lib.ListN.{length, take}
use Rattle.numerals.specs.Numbers.{big, twos}
use Rattle.contents.proofs.readings.fill.Given as goal

abbrev pub invariant-loop-i : goal.invariant-loop-i
invariant-loop-i l = (length l.column ≡ length l.fours) × (take l.i l.column ≡ map (λ four. twos 32 (big four)) (take l.i l.fours))

use Rattle.std.proofs.Common.{◌≡◌, List, ℕ, Some, take}
use Rattle.std.specs.Io.KnownBytes.{Appends}
use Rattle.worked.specs.Prints.{spaced}
use Rattle.worked.proofs.prints.print_values.Given as goal

-- The values so far are printed.
abbrev pub invariant-loop-value : goal.invariant-loop-value
invariant-loop-value g l =
    (show : g.row.T.Denot → List ℕ) → ((value : g.row.T.Denot) → g.T.Display.output value ≡ Some (show value))
    → Appends (g.W.Write.contents l.fn.out) (g.W.Write.contents l.out) (spaced show (take l.value-index l.values))

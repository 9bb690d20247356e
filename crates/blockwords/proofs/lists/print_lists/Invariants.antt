use Rattle.std.proofs.Common.{take}
use Rattle.std.specs.Io.KnownBytes.{Appends}
use Rattle.blockings.specs.Blockings.{blockings_of}
use Rattle.blockwords.specs.Printed.{list_lines}
use Rattle.blockwords.proofs.lists.print_lists.Given as goal

abbrev pub invariant-loop-i : goal.invariant-loop-i
invariant-loop-i g l = Appends (g.W.Write.contents l.initial.out) (g.W.Write.contents l.out) (list_lines l.k (take l.i (blockings_of l.k l.words)))

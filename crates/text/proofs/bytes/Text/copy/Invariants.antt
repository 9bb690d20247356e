use lib.ListN.{take}
use Rattle.text.specs.Text.{Writes}
use Rattle.text.proofs.bytes.Text.copy.Given as goal

abbrev pub invariant-loop-byte : goal.invariant-loop-byte
invariant-loop-byte l = Writes l.initial.self (take l.byte-index l.part) l.self

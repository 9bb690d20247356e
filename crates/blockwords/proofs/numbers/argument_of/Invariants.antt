use Rattle.blockwords.specs.Laws.Digits.{Read}
use Rattle.blockwords.proofs.numbers.argument_of.Given as goal

abbrev pub invariant-loop-byte : goal.invariant-loop-byte
invariant-loop-byte l = Read l.bytes l.byte-index l.n

use Prim.Native.Nat.{◌+◌}
use lib.ListN.{length}
use Rattle.screening.proofs.Forming.{Forming}
use Rattle.screening.proofs.mains.main_words.Given as goal

abbrev pub invariant-loop-i : goal.invariant-loop-i
invariant-loop-i l = Forming l.k l.words (l.k + length l.words) l.i l.mains

use Prim.Native.Nat.{◌-◌}
use lib.ListN.{length, get_or}
use Rattle.algebra.specs.Laws.Gathered.{Gathered}
use Rattle.words.specs.Words.{odd_in}
use Rattle.runs.proofs.treatments.block_number.Given as goal

abbrev pub invariant-loop-j : goal.invariant-loop-j
invariant-loop-j l = Gathered (λ i. odd_in l.run (get_or l.words i 0)) (length l.words) l.j l.block

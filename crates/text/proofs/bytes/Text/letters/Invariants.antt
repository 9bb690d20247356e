use Rattle.text.specs.Text.{Writes}
use Rattle.text.specs.Spelled.{letters_in}
use Rattle.text.proofs.bytes.Text.letters.Given as goal

abbrev pub invariant-loop-i : goal.invariant-loop-i
invariant-loop-i l = Writes l.initial.self (letters_in l.i l.word) l.self

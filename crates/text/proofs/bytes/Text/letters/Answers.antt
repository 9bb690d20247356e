use mathlib.Core.Path.{sym, subst}
use Rattle.algebra.specs.Laws.Tests.{is}
use Rattle.text.specs.Text.{Writes}
use Rattle.text.specs.Laws.Writing.{no-letters, letter-more, letter-passed}
use Rattle.text.proofs.bytes.Text.letters.Goals as goal
use Rattle.text.proofs.bytes.Text.letters.Goals.{then-has_letter, else-has_letter}

pub loop-i-init : goal.loop-i-init
loop-i-init c = no-letters _ _

pub loop-i-preserved : goal.loop-i-preserved
loop-i-preserved c =
    let before = c.loop-i.invariant in
    let test = c.has_letter.ensures in
    elim c.if-has_letter.branch [
      | then-has_letter w ↦ subst (Writes _ _) (sym w.self-is) (letter-more _ _ before (is test w.if-has_letter.true) w.put.ensures)
      | else-has_letter w ↦ subst (Writes _ _) (sym w.self-is) (letter-passed _ _ before (is test w.if-has_letter.false))
    ]

use lib.ListN.{take}
use Rattle.text.specs.Text.{Writes}
use Rattle.blockwords.specs.Inner.Written.{space_after}
use Rattle.blockwords.proofs.list_lines.words_text.Given as goal

abbrev pub invariant-loop-word : goal.invariant-loop-word
invariant-loop-word l = Writes l.initial.text (space_after (take l.word-index l.list)) l.text

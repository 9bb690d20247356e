use Rattle.blockwords.specs.Laws.Lists.{no_words, word_more}
use Rattle.blockwords.proofs.list_lines.words_text.Goals as goal

pub loop-word-init : goal.loop-word-init
loop-word-init c = no_words _

pub loop-word-preserved : goal.loop-word-preserved
loop-word-preserved c = word_more _ _ c.loop-word-test.true c.loop-word.invariant c.letters.ensures c.put.ensures

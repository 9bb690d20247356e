use Rattle.blockwords.specs.Laws.Lists.{line_made}
use Rattle.blockwords.proofs.list_lines.line_text.Goals as goal

pub returns : goal.returns
returns c = line_made _ _ c.words_text.ensures c.put.ensures c.effects_text.ensures c.put-2.ensures

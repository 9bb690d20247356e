use Rattle.std.proofs.Common.{arith, ◌∙◌}
use Rattle.blockwords.specs.Laws.Places.{whole-line}
use Rattle.blockwords.specs.Laws.Plans.{few_words}
use Rattle.blockwords.proofs.list_lines.list_line.Goals as goal

pub returns : goal.returns
returns c =
    let start = c.new-line.ensures in
    let line = rw (start.bytes, start.empty) at c.line_text.ensures.wrote in
    record {
      wrote = rw c.len.ensures line;
      value = c.len.ensures ∙ whole-line _ _ line (omega arith) c.requires.small (few_words c.requires);
    }

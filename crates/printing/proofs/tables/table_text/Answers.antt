use Rattle.printing.specs.Laws.Tables.{table-lines}
use Rattle.printing.proofs.tables.table_text.Goals as goal

pub row_lines-requires : goal.row_lines-requires
row_lines-requires c =
    let pre = c.requires in
    pre

pub returns : goal.returns
returns c =
    table-lines
    c.requires
    c.args.marks.now
    c.args.f
    c.named_line.ensures
    c.row_lines.ensures
    c.source_line.ensures
    c.source_line-2.ensures
    c.source_line-3.ensures
    c.struct_told-1.given.0.1
    c.struct_told-1.given.1.0.1
    c.check_line.ensures

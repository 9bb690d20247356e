use Rattle.printing.specs.Laws.Tables.{rows-ready, made-text, stopped-text}
use Rattle.printing.proofs.tables.answer_text.Goals as goal

pub table_text-requires : goal.table_text-requires
table_text-requires c = let table_is = c.table.ensures in rows-ready _ _ _ _ _ table_is.result_value c.in-Ok.is table_is.rows_after

pub returns-in-Ok : goal.returns-in-Ok
returns-in-Ok c = let table_is = c.table.ensures in made-text _ _ _ _ _ table_is.result_value c.in-Ok.is table_is.rows_after c.table_text.ensures

pub returns-in-Err : goal.returns-in-Err
returns-in-Err c = let table_is = c.table.ensures in stopped-text _ _ _ _ _ table_is.result_value c.in-Err.is c.number.ensures _ c.named_line.ensures

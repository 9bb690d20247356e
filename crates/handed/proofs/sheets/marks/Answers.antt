use Rattle.handed.proofs.Spans.{marks-end}
use Rattle.handed.proofs.sheets.marks.Goals as goal

pub returns : goal.returns
returns c = let all = marks-end _ c.marks-part.ensures in record { value = all.0; sheet_value = all.1 }

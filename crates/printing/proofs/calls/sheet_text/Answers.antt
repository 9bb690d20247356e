use Rattle.printing.specs.Laws.Lengths.{too_long, long-enough}
use Rattle.printing.proofs.calls.sheet_text.Goals as goal

pub returns-then-sheet-gt-LONGEST : goal.returns-then-sheet-gt-LONGEST
returns-then-sheet-gt-LONGEST c = too_long _ c.named_line.ensures c.if-sheet-gt-LONGEST.true

pub returns : goal.returns
returns c = long-enough _ c.read_text.ensures c.if-sheet-gt-LONGEST.false

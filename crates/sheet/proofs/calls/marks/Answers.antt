use Rattle.sheet.proofs.Answering.{marks-refused, marks-stopped, marks-given}
use Rattle.sheet.proofs.calls.marks.Goals as goal

pub returns-in-Ok : goal.returns-in-Ok
returns-in-Ok c = marks-given _ (marks-refused _ c.plan_in.ensures c.in-Ok.ensures) c.body.ensures

pub returns-in-Err : goal.returns-in-Err
returns-in-Err c = marks-stopped _ _ (marks-refused _ c.plan_in.ensures c.in-Err.ensures)

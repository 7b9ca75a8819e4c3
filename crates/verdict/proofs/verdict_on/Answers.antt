-- `verdict_on` meets its contract: it says what judging the line says. Assumes nothing.
use Rattle.verdict.proofs.Judging.{verdict_refused, verdict_accepted}
use Rattle.verdict.proofs.verdict_on.Goals as goal

pub returns-in-Ok : goal.returns-in-Ok
returns-in-Ok c = verdict_accepted _ (rw c.in-Ok.is at c.judge.ensures).1

pub returns-in-Err : goal.returns-in-Err
returns-in-Err c = verdict_refused _ (rw c.in-Err.is at c.judge.ensures)

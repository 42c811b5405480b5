-- `due_at` meets its contract: six digits that end the line, or the whole field. Assumes nothing.
use Rattle.calendar.proofs.at.Exits.{spelled-due}
use Rattle.calendar.proofs.at.due_at.Goals as goal

pub returns-then-d-gt0 : goal.returns-then-d-gt0
returns-then-d-gt0 c = search spelled-due

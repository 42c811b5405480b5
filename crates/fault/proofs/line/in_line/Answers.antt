-- `in_line`: what is told of a field, in its line. Assumes nothing.
use Rattle.fault.specs.line.Walks.{in_line}
use Rattle.fault.proofs.line.in_line.Goals as goal

pub returns-in-Ok : goal.returns-in-Ok
unfolding in_line
returns-in-Ok c = rw c.in-Ok.is

pub returns-in-Err : goal.returns-in-Err
unfolding in_line
returns-in-Err c = rw c.in-Err.is

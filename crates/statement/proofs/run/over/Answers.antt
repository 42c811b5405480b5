-- `over`: what is open is closed, and nothing is where none is. Assumes nothing.
use Rattle.statement.proofs.run.Stages.{overs}
use Rattle.statement.proofs.run.over.Goals as goal

pub close-requires : goal.close-requires
close-requires c = search overs

pub returns-in-Some : goal.returns-in-Some
returns-in-Some c = search overs

pub returns-in-None : goal.returns-in-None
returns-in-None c = search overs

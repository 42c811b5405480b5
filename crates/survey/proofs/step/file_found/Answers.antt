-- `file_found`: the first fault for 21 stays, else the row's own is found. Assumes nothing.
use Rattle.survey.proofs.step.Finding.{stays, finding}
use Rattle.survey.proofs.step.file_found.Goals as goal

pub returns-in-Some : goal.returns-in-Some
returns-in-Some c = λ today h p f t holds. search stays

pub returns-in-None : goal.returns-in-None
returns-in-None c = search finding

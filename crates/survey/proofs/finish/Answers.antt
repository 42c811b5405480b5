-- `finish` meets its contract: by the stage, and by what was found. Assumes nothing.
use Rattle.survey.proofs.Ends.{ends}
use Rattle.survey.proofs.finish.Goals as goal

pub returns-then-not-may_stop-clause-result_value : goal.returns-then-not-may_stop-clause-result_value
returns-then-not-may_stop-clause-result_value c = λ sh today h p. search ends

pub returns-in-Some-clause-result_value : goal.returns-in-Some-clause-result_value
returns-in-Some-clause-result_value c = λ sh today h p. search ends

pub returns-in-None-clause-result_value : goal.returns-in-None-clause-result_value
returns-in-None-clause-result_value c = λ sh today h p. search ends

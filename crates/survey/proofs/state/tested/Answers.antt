-- `tested` meets its contract: by the test's answer. Assumes nothing.
use Rattle.survey.proofs.state.Small.{testing}
use Rattle.survey.proofs.state.tested.Goals as goal

pub returns-in-Ok : goal.returns-in-Ok
returns-in-Ok c = search testing

pub returns-in-Err : goal.returns-in-Err
returns-in-Err c = search testing

-- `bank_due` meets its contract: any bank, the own one, or none. Assumes nothing.
use Rattle.survey.proofs.step.Finding.{allowing}
use Rattle.survey.proofs.step.bank_due.Goals as goal

pub returns-in-Any : goal.returns-in-Any
returns-in-Any c = search allowing

pub returns-in-Own : goal.returns-in-Own
returns-in-Own c = search allowing

pub returns-in-Nobody : goal.returns-in-Nobody
returns-in-Nobody c = search allowing

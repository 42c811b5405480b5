-- `bank_due` meets its contract: any bank, the own one, or none. Assumes nothing.
use Rattle.bank.proofs.at.Exits.{any-allowed, own-allowed, none_allowed}
use Rattle.bank.proofs.at.bank_due.Goals as goal

pub returns-in-Any : goal.returns-in-Any
returns-in-Any c = search (any-allowed, own-allowed, none_allowed)

pub returns-in-Own : goal.returns-in-Own
returns-in-Own c = search (any-allowed, own-allowed, none_allowed)

pub returns-in-Nobody : goal.returns-in-Nobody
returns-in-Nobody c = search (any-allowed, own-allowed, none_allowed)

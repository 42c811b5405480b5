-- `amount_at` meets its contract: digits alone, or the whole field. Assumes nothing.
use Rattle.amount.proofs.at.Exits.{digits-amount}
use Rattle.amount.proofs.at.amount_at.Goals as goal

pub returns : goal.returns
returns c = search digits-amount

-- `total_at` meets its contract: digits alone, or the whole field. Assumes nothing.
use borrow.Author.Rules.{rules}
use Rattle.paper.specs.Amounts.{read_total}
use Rattle.numeral.specs.field.At.{field_at}
use Rattle.amount.proofs.at.Exits.{digits-total}
use Rattle.amount.proofs.at.total_at.Goals as goal

pub returns-in_default : goal.returns-in_default
unfolding field_at read_total
returns-in_default c = search rules

pub returns : goal.returns
returns c = search digits-total

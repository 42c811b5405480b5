-- `take_account` meets its contract. Assumes nothing.
use borrow.Author.Rules.{rules}
use Rattle.account.proofs.at.Taken.{accounts}
use Rattle.account.proofs.at.take_account.Goals as goal

pub take_numbers-requires : goal.take_numbers-requires
take_numbers-requires c = search (accounts, rules)

pub returns : goal.returns
returns c = search accounts

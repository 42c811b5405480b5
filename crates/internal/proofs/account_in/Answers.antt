-- `account_in`: an exit for digits of the prefix that are refused, one for those of the base, and one where both are read. Assumes nothing.
use borrow.Author.Rules.{rules}
use Rattle.internal.proofs.Exits.{readings}
use Rattle.internal.proofs.account_in.Goals as goal

pub returns-in_default : goal.returns-in_default
returns-in_default c = search (readings, rules)

pub returns-in_default-read_digits : goal.returns-in_default-read_digits
returns-in_default-read_digits c = search (readings, rules)

pub returns : goal.returns
returns c = search (readings, rules)

-- `check_number`: NUMBER: six digits, of which on K (`interval`) the first three lie from `from` to `to` and are not in the set of earlier ones. Assumes nothing.
use borrow.Author.Rules.{rules}
use Rattle.fault.proofs.field.Numbers.{numbers}
use Rattle.fault.proofs.field.check_number.Goals as goal

pub check_series-requires : goal.check_series-requires
check_series-requires c = search (numbers, rules)

pub returns-then-interval : goal.returns-then-interval
returns-then-interval c = search numbers

pub returns : goal.returns
returns c = search numbers

pub returns-in_default : goal.returns-in_default
returns-in_default c = search numbers

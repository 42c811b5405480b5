-- `check_amount`: an item's amount: not zero, and not over its limit. Assumes nothing.
use Rattle.fault.proofs.field.Rulings.{amounts}
use Rattle.fault.proofs.field.check_amount.Goals as goal

pub returns-then-v-lt1 : goal.returns-then-v-lt1
returns-then-v-lt1 c = search amounts

pub returns-then-max-v : goal.returns-then-max-v
returns-then-max-v c = search amounts

pub returns : goal.returns
returns c = search amounts

pub returns-in_default : goal.returns-in_default
returns-in_default c = search amounts

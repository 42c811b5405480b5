-- `close`: three tests, one after another, and an exit for each that fails. Assumes nothing.
use Rattle.statement.proofs.run.Stages.{closings}
use Rattle.statement.proofs.run.close.Goals as goal

pub returns-then-balanced : goal.returns-then-balanced
returns-then-balanced c = search closings

pub returns-then-credit_is : goal.returns-then-credit_is
returns-then-credit_is c = search closings

pub returns-then-debit_is : goal.returns-then-debit_is
returns-then-debit_is c = search closings

pub returns : goal.returns
returns c = search closings

-- `judge_payer` meets its contract: nobody in an empty field, an account, or only zeros. Assumes nothing.
use Rattle.account.proofs.at.Payers.{payers}
use Rattle.account.proofs.at.judge_payer.Goals as goal

pub returns-then-left_empty : goal.returns-then-left_empty
returns-then-left_empty c = search payers

pub returns-in-Ok : goal.returns-in-Ok
returns-in-Ok c = search payers

pub returns-in-Err : goal.returns-in-Err
returns-in-Err c = search payers

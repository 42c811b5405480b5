-- `head_tested`: an exit for each word that passes its digits, and one where none does, whatever is kept. Assumes nothing.
use borrow.Author.Rules.{rules}
use Rattle.record.proofs.row.Tested.{head-tests}
use Rattle.record.proofs.row.head_tested.Goals as goal

pub returns-then-x-gt999999 : goal.returns-then-x-gt999999
returns-then-x-gt999999 c = record { result_value = λ k. search head-tests; small_head_read = tt; fits_head_read = tt }

pub returns-then-x-gt9999999999 : goal.returns-then-x-gt9999999999
returns-then-x-gt9999999999 c = record { result_value = λ k. search head-tests; small_head_read = tt; fits_head_read = tt }

pub returns-then-old-gt99999999999999 : goal.returns-then-old-gt99999999999999
returns-then-old-gt99999999999999 c = record { result_value = λ k. search head-tests; small_head_read = tt; fits_head_read = tt }

pub returns-then-new-gt99999999999999 : goal.returns-then-new-gt99999999999999
returns-then-new-gt99999999999999 c = record { result_value = λ k. search head-tests; small_head_read = tt; fits_head_read = tt }

pub returns-then-debit-gt99999999999999 : goal.returns-then-debit-gt99999999999999
returns-then-debit-gt99999999999999 c = record { result_value = λ k. search head-tests; small_head_read = tt; fits_head_read = tt }

pub returns-then-credit-gt99999999999999 : goal.returns-then-credit-gt99999999999999
returns-then-credit-gt99999999999999 c = record { result_value = λ k. search head-tests; small_head_read = tt; fits_head_read = tt }

pub returns : goal.returns
returns c = record { result_value = λ k. search head-tests; small_head_read = search rules; fits_head_read = search rules }

-- `read_row`: word 0 says as which the words are read, and the reader's answer is passed on. Assumes nothing.
use Rattle.record.proofs.row.Words.{kinds}
use Rattle.record.proofs.row.read_row.Goals as goal

pub returns-then-kind-eq75-clause-result_value : goal.returns-then-kind-eq75-clause-result_value
returns-then-kind-eq75-clause-result_value c = search kinds

pub returns-then-kind-eq74-clause-result_value : goal.returns-then-kind-eq74-clause-result_value
returns-then-kind-eq74-clause-result_value c = search kinds

pub returns-clause-result_value : goal.returns-clause-result_value
returns-clause-result_value c = search kinds

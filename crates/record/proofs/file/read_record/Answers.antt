-- `read_record`: the type says as which the bytes are read, and the reader's answer is passed on. Assumes nothing.
use Rattle.record.proofs.file.Readings.{records}
use Rattle.record.proofs.file.read_record.Goals as goal

pub returns-in-Some-Movement-clause-result_value : goal.returns-in-Some-Movement-clause-result_value
returns-in-Some-Movement-clause-result_value c = search records

pub returns-in-Some-Head-clause-result_value : goal.returns-in-Some-Head-clause-result_value
returns-in-Some-Head-clause-result_value c = search records

pub returns-in-None-clause-result_value : goal.returns-in-None-clause-result_value
returns-in-None-clause-result_value c = search records

-- `read_code`: an exit for each posting code, and one for any other byte. Assumes nothing.
use Rattle.record.proofs.file.Fields.{fields}
use Rattle.record.proofs.file.read_code.Goals as goal

pub returns-then-b-eq49 : goal.returns-then-b-eq49
returns-then-b-eq49 c = search fields

pub returns-then-b-eq50 : goal.returns-then-b-eq50
returns-then-b-eq50 c = search fields

pub returns-then-b-eq52 : goal.returns-then-b-eq52
returns-then-b-eq52 c = search fields

pub returns-then-b-eq53 : goal.returns-then-b-eq53
returns-then-b-eq53 c = search fields

pub returns : goal.returns
returns c = search fields

-- `end_file` meets its contract: both closing lines where they are due, or nothing. Assumes nothing.
use borrow.Author.Rules.{rules}
use Rattle.spelling.proofs.file.Ends.{ends}
use Rattle.spelling.proofs.file.end_file.Goals as goal

pub put_close-e-requires : goal.put_close-e-requires
put_close-e-requires c = search (ends, rules)

pub put_close-requires : goal.put_close-requires
put_close-requires c = search (ends, rules)

pub returns-then-due : goal.returns-then-due
returns-then-due c = search ends

pub returns : goal.returns
returns c = search ends

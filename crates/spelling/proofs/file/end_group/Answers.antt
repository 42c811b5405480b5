-- `end_group` meets its contract: the closing line where it is due, or nothing. Assumes nothing.
use borrow.Author.Rules.{rules}
use Rattle.spelling.proofs.file.Ends.{ends}
use Rattle.spelling.proofs.file.end_group.Goals as goal

pub put_close-requires : goal.put_close-requires
put_close-requires c = search (ends, rules)

pub returns-then-due : goal.returns-then-due
returns-then-due c = search ends

pub returns : goal.returns
returns c = search ends

-- `read_on` tests the day, and then the file.
use borrow.Author.Rules.{rules}
use Rattle.read.proofs.Exits.{judging}
use Rattle.read.proofs.read_on.Goals as goal

pub judge_file-requires : goal.judge_file-requires
judge_file-requires c = search (judging, rules)

pub accept-requires : goal.accept-requires
accept-requires c = search (judging, rules)

pub returns-in-Err : goal.returns-in-Err
returns-in-Err c = search judging

pub returns-else-real_day : goal.returns-else-real_day
returns-else-real_day c = search judging

-- `begin` meets its contract: a first line with or without a header, or judging halts at it. Assumes nothing.
use borrow.Author.Rules.{rules}
use Rattle.course.proofs.line.Leading.{firsts-lead}
use Rattle.course.proofs.line.begin.Goals as goal

pub first_line-requires : goal.first_line-requires
first_line-requires c = search (firsts-lead, rules)

pub returns-in-Some : goal.returns-in-Some
returns-in-Some c = search (firsts-lead, rules)

pub returns-in-None : goal.returns-in-None
returns-in-None c = search (firsts-lead, rules)

pub returns-in_default : goal.returns-in_default
returns-in_default c = search (firsts-lead, rules)

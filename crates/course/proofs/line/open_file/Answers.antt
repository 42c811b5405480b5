-- `open_file` meets its contract: 15, the line refused, or its number put to those seen. Assumes nothing.
use borrow.Author.Rules.{rules}
use Rattle.course.proofs.line.Leading.{files-lead}
use Rattle.judge.proofs.accountfile.Files.{file-places}
use Rattle.course.proofs.line.open_file.Goals as goal

pub returns-then-files-ge1000 : goal.returns-then-files-ge1000
returns-then-files-ge1000 c = search (files-lead, file-places, rules)

pub file_line-requires : goal.file_line-requires
file_line-requires c = search (files-lead, file-places, rules)

pub mark-requires : goal.mark-requires
mark-requires c = search (files-lead, file-places, rules)

pub file_more-more-requires : goal.file_more-more-requires
file_more-more-requires c = search (files-lead, file-places, rules)

pub new_shelf-shelf-requires : goal.new_shelf-shelf-requires
new_shelf-shelf-requires c = search (files-lead, file-places, rules)

pub returns : goal.returns
returns c = search (files-lead, file-places, rules)

pub returns-in_default : goal.returns-in_default
returns-in_default c = search (files-lead, file-places, rules)

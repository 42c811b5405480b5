-- `list_file` lists on the sheet that the number names.
use borrow.Author.Rules.{rules}
use Rattle.findings.proofs.Exits.{on-sheets}
use Rattle.findings.proofs.list_file.Goals as goal

pub sheet_of-requires : goal.sheet_of-requires
sheet_of-requires c = search (on-sheets, rules)

pub list_on-requires : goal.list_on-requires
list_on-requires c = search (on-sheets, rules)

pub no_list-requires : goal.no_list-requires
no_list-requires c = search (on-sheets, rules)

pub returns-in-Some : goal.returns-in-Some
returns-in-Some c = search (on-sheets, rules)

pub returns-in-None : goal.returns-in-None
returns-in-None c = search (on-sheets, rules)

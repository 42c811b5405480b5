-- `explain_file` explains on the sheet that the number names.
use borrow.Author.Rules.{rules}
use Rattle.explain.proofs.Exits.{on-sheets}
use Rattle.explain.proofs.explain_file.Goals as goal

pub sheet_of-requires : goal.sheet_of-requires
sheet_of-requires c = search (on-sheets, rules)

pub explain_on-requires : goal.explain_on-requires
explain_on-requires c = search (on-sheets, rules)

pub no_text-requires : goal.no_text-requires
no_text-requires c = search (on-sheets, rules)

pub returns-in-Some : goal.returns-in-Some
returns-in-Some c = search (on-sheets, rules)

pub returns-in-None : goal.returns-in-None
returns-in-None c = search (on-sheets, rules)

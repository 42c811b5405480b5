-- `write_file` writes on the sheet that the number names.
use borrow.Author.Rules.{rules}
use Rattle.write.proofs.Exits.{sheets}
use Rattle.write.proofs.write_file.Goals as goal

pub write_on-requires : goal.write_on-requires
write_on-requires c = search (sheets, rules)

pub returns-in-Some : goal.returns-in-Some
returns-in-Some c = search sheets

pub returns-in-None : goal.returns-in-None
returns-in-None c = search sheets

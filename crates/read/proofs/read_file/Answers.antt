-- `read_file` reads on the sheet that the number names.
use borrow.Author.Rules.{rules}
use Rattle.read.proofs.Exits.{sheets}
use Rattle.read.proofs.read_file.Goals as goal

pub read_on-requires : goal.read_on-requires
read_on-requires c = search (sheets, rules)

pub returns-in-Some : goal.returns-in-Some
returns-in-Some c = search sheets

pub returns-in-None : goal.returns-in-None
returns-in-None c = search sheets

-- `read_registered` meets its contract: on the sheet that the number names, or 1. Assumes nothing.
use borrow.Author.Rules.{rules}
use Rattle.registered.proofs.Answers.{sheets}
use Rattle.registered.proofs.read_registered.Goals as goal

pub read_on-requires : goal.read_on-requires
read_on-requires c = search (sheets, rules)

pub returns-in-Some : goal.returns-in-Some
returns-in-Some c = search sheets

pub returns-in-None : goal.returns-in-None
returns-in-None c = search sheets

-- `verdict_for` judges on the sheet that the number names.
use borrow.Author.Rules.{rules}
use Rattle.verdict.proofs.Exits.{sheets}
use Rattle.verdict.proofs.verdict_for.Goals as goal

pub verdict_on-requires : goal.verdict_on-requires
verdict_on-requires c = search (sheets, rules)

pub returns-in-Some : goal.returns-in-Some
returns-in-Some c = search sheets

pub returns-in-None : goal.returns-in-None
returns-in-None c = search sheets

-- `verdict_of` gives the finding's number and place, or the counts of rows and warnings.
use borrow.Author.Rules.{rules}
use Rattle.verdict.proofs.Exits.{outcomes}
use Rattle.verdict.proofs.verdict_of.Goals as goal

pub returns-in-Err : goal.returns-in-Err
returns-in-Err c = search (outcomes, rules)

pub returns-in-Ok : goal.returns-in-Ok
returns-in-Ok c = search (outcomes, rules)

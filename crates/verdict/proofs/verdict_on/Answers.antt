-- `verdict_on` tests the day, and then the file.
use borrow.Author.Rules.{rules}
use Rattle.verdict.proofs.Exits.{verdicts}
use Rattle.verdict.proofs.verdict_on.Goals as goal

pub follow-requires : goal.follow-requires
follow-requires c = search (verdicts, rules)

pub returns-then-real_day : goal.returns-then-real_day
returns-then-real_day c = search (verdicts, rules)

pub returns : goal.returns
returns c = search verdicts

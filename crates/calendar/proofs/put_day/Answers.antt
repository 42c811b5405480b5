-- `put_day` writes a day as it is spelled.
use borrow.Author.Rules.{rules}
use Rattle.paper.specs.Days.{spell_day}
use Rattle.calendar.proofs.put_day.Goals as goal

pub returns : goal.returns
unfolding spell_day
returns c = search rules

-- `first_day`: from which day on: today, or any where past days are taken. Assumes nothing.
use Rattle.base.proofs.Cases.{picks}
use Rattle.fault.proofs.due.first_day.Goals as goal

pub returns-then-early : goal.returns-then-early
returns-then-early c = search picks

pub returns : goal.returns
returns c = search picks

-- `check_named`: `NP:` and a name alone: one part, which is empty, and how long the name is. Assumes nothing.
use Rattle.fault.proofs.texts.Marks.{names}
use Rattle.fault.proofs.texts.check_named.Goals as goal

pub returns-then-most-lt1 : goal.returns-then-most-lt1
returns-then-most-lt1 c = search names

pub returns-then-is_short : goal.returns-then-is_short
returns-then-is_short c = search names

pub returns : goal.returns
returns c = search names

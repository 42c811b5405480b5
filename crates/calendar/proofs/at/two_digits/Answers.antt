-- `two_digits` meets its contract: two bytes, each tested. Assumes nothing.
use Rattle.calendar.proofs.at.Exits.{spelling}
use Rattle.calendar.proofs.at.two_digits.Goals as goal

pub returns-then-a-gt9 : goal.returns-then-a-gt9
returns-then-a-gt9 c = search spelling

pub returns-then-b-gt9 : goal.returns-then-b-gt9
returns-then-b-gt9 c = search spelling

pub returns : goal.returns
returns c = search spelling

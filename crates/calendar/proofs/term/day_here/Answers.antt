-- `day_here` tells where a group's day is judged. Assumes nothing.
use Rattle.calendar.proofs.Terms.{terms}
use Rattle.calendar.proofs.term.day_here.Goals as goal

pub returns-then-kind-eq1502 : goal.returns-then-kind-eq1502
returns-then-kind-eq1502 c = search terms

pub returns-then-collects : goal.returns-then-collects
returns-then-collects c = search terms

pub returns : goal.returns
returns c = search terms

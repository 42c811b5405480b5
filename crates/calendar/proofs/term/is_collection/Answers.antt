-- `is_collection` tells a collection by its kind, on a sheet that judges these for each item. Assumes nothing.
use Rattle.calendar.proofs.Terms.{terms}
use Rattle.calendar.proofs.term.is_collection.Goals as goal

pub returns-then-kind-eq1502 : goal.returns-then-kind-eq1502
returns-then-kind-eq1502 c = search terms

pub returns : goal.returns
returns c = search terms

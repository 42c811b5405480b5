-- `scan::seek::is_clean` meets its contract. Assumes nothing.
use Rattle.scan.proofs.seek.Turns.{cleans}
use Rattle.scan.proofs.seek.is_clean.Goals as goal

pub returns-then-b-eq35 : goal.returns-then-b-eq35
returns-then-b-eq35 c = search (cleans)

pub returns-then-b-eq126 : goal.returns-then-b-eq126
returns-then-b-eq126 c = search (cleans)

pub returns : goal.returns
returns c = search (cleans)

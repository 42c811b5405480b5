-- `scan::seek::lacks_pattern` meets its contract. Assumes nothing.
use Rattle.scan.proofs.seek.Turns.{lacks-told}
use Rattle.scan.proofs.seek.lacks_pattern.Goals as goal

pub returns : goal.returns
returns c = search lacks-told

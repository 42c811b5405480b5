-- `scan::seek::is_text` meets its contract. Assumes nothing.
use Rattle.scan.proofs.seek.Turns.{texts}
use Rattle.scan.proofs.seek.is_text.Goals as goal

pub returns-then-b-lt32 : goal.returns-then-b-lt32
returns-then-b-lt32 c = search (texts)

pub returns-then-b-eq127 : goal.returns-then-b-eq127
returns-then-b-eq127 c = search (texts)

pub returns : goal.returns
returns c = search (texts)

-- `walk_plus`: a plus at `at`, and nothing more. Assumes nothing.
use Rattle.fault.proofs.closing.Pluses.{pluses}
use Rattle.fault.proofs.closing.walk_plus.Goals as goal

pub returns-then-n-at : goal.returns-then-n-at
returns-then-n-at c = search pluses

pub returns-then-n-after : goal.returns-then-n-after
returns-then-n-after c = search pluses

pub returns-then-s-at-eq43 : goal.returns-then-s-at-eq43
returns-then-s-at-eq43 c = search pluses

pub returns : goal.returns
returns c = search pluses

-- `read_today` wants a space, and reads the day behind it.
use Rattle.rewriting.proofs.request.Asking.{exits}
use Rattle.rewriting.proofs.request.read_today.Goals as goal

pub returns-then-s-eq0 : goal.returns-then-s-eq0
returns-then-s-eq0 c = search exits depth 8

pub returns-then-s-eq32 : goal.returns-then-s-eq32
returns-then-s-eq32 c = search exits depth 8

pub returns : goal.returns
returns c = search exits depth 8

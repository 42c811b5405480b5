-- `walk_close`: a line that was known as a closing one by its first byte: behind it a space and a plus, or, where `near`, a plus at once. Assumes nothing.
use Rattle.fault.proofs.closing.Pluses.{closes}
use Rattle.fault.proofs.closing.walk_close.Goals as goal

pub returns-then-n-lt2 : goal.returns-then-n-lt2
returns-then-n-lt2 c = search closes

pub returns-then-s-eq32 : goal.returns-then-s-eq32
returns-then-s-eq32 c = search closes

pub returns-then-near : goal.returns-then-near
returns-then-near c = search closes

pub returns : goal.returns
returns c = search closes

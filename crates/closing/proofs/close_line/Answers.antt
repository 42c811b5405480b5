-- `close_line` reads a closing line. Assumes nothing.
use Rattle.closing.proofs.Steps.{closes}
use Rattle.closing.proofs.close_line.Goals as goal

pub returns-then-s-lt2 : goal.returns-then-s-lt2
returns-then-s-lt2 c = search closes

pub returns-then-s-eq32 : goal.returns-then-s-eq32
returns-then-s-eq32 c = search closes

pub returns-then-near : goal.returns-then-near
returns-then-near c = search closes

pub returns : goal.returns
returns c = search closes

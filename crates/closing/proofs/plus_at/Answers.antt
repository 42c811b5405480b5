-- `plus_at` takes a plus and nothing more. Assumes nothing.
use Rattle.closing.proofs.Steps.{closes}
use Rattle.closing.proofs.plus_at.Goals as goal

pub returns-then-s-at : goal.returns-then-s-at
returns-then-s-at c = search closes

pub returns-then-s-after : goal.returns-then-s-after
returns-then-s-after c = search closes

pub returns-then-s-at-eq43 : goal.returns-then-s-at-eq43
returns-then-s-at-eq43 c = search closes

pub returns : goal.returns
returns c = search closes

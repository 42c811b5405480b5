-- `text::fits::part_proper` meets its contract. Assumes nothing.
use Rattle.base.proofs.Cases.{picks}
use Rattle.paper.specs.Texts.{part_proper}
use Rattle.text.proofs.fits.part_proper.Goals as goal

pub returns-then-name_proper : goal.returns-then-name_proper
unfolding part_proper
returns-then-name_proper c = search (picks)

pub returns : goal.returns
unfolding part_proper
returns c = search (picks)

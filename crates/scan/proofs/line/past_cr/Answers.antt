-- `past_cr` meets its contract: each return is a law of what follows the CR. Assumes nothing.
use Rattle.scan.proofs.line.Cutting.{behinds}
use Rattle.scan.proofs.line.past_cr.Goals as goal

pub returns-then-f-after-eq10 : goal.returns-then-f-after-eq10
returns-then-f-after-eq10 c = search behinds

pub returns-else-f-after-eq10 : goal.returns-else-f-after-eq10
returns-else-f-after-eq10 c = search behinds

pub returns-else-after-f : goal.returns-else-after-f
returns-else-after-f c = search behinds

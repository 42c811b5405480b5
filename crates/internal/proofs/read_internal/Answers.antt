-- `read_internal`: what is said of the sixteen bytes by value is said of those from `at` on. Assumes nothing.
use Rattle.internal.proofs.read_internal.Goals as goal

pub returns : goal.returns
returns c = cc

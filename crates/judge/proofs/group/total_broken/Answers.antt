-- `total_broken`: by the tests of its three numbers. Assumes nothing.
use mathlib.Core.Path.{◌≡◌, refl}
use mathlib.Core.Bool.{Bool, true, false, not}
use Rattle.base.specs.Pick.{pick}
use Rattle.base.proofs.Cases.{picks}
use Rattle.paper.specs.Judge.{total_broken}
use Rattle.judge.proofs.group.total_broken.Goals as goal

differs : (t : Bool) → not t ≡ pick t false true
unfolding pick
differs true = refl
differs false = refl

pub returns-then-sum-gt99999999999999 : goal.returns-then-sum-gt99999999999999
unfolding total_broken
returns-then-sum-gt99999999999999 c = search picks

pub returns-then-strict : goal.returns-then-strict
unfolding total_broken
returns-then-strict c = search (picks, differs)

pub returns : goal.returns
unfolding total_broken
returns c = search picks

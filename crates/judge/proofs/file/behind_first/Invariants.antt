-- The loop of `behind_first`: the answer from where reading stands is the answer of the file, and there is less to go. Assumes nothing.
use Rattle.std.proofs.Common.{Ok}
use Rattle.judge.specs.accountfile.Resume.{to_go}
use Rattle.judge.proofs.file.Goes.{Stands}
use Rattle.judge.proofs.file.behind_first.Given as goal

abbrev pub invariant-loop-left : goal.invariant-loop-left
invariant-loop-left l = Stands l.fn.sh l.fn.today l.f l.fn.at l.head l.initial.seen l.seen (Ok l.left)

abbrev pub decreases-loop-left : goal.decreases-loop-left
decreases-loop-left l = to_go l.f (Ok l.left)

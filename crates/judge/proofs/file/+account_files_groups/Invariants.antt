-- `account_files` and `groups`, which call each other: the budget falls; and along a group's account file the rest to be read falls too.
use Rattle.std.proofs.Common.{◌≡◌, Ok}
use Rattle.judge.specs.declared.accountfile.Left.TheVariants as left
use Rattle.judge.specs.accountfile.Resume.{to_go}
use Rattle.judge.proofs.file.Goes.{Along}
use Rattle.judge.proofs.file.+account_files_groups.Given as goal

abbrev pub decreases-account_files : goal.decreases-account_files
decreases-account_files l = l.budget

abbrev pub decreases-groups : goal.decreases-groups
decreases-groups l = l.budget

abbrev pub invariant-groups-loop-next : goal.invariant-groups-loop-next
invariant-groups-loop-next l =
    Along l.terms.sheet l.terms.today l.f (Ok (left.Group l.initial.at l.initial.line l.initial.counts l.initial.shelf)) (Ok (left.Group l.at l.line l.counts l.shelf))
    × (l.seen ≡ l.fn.seen)

abbrev pub decreases-groups-loop-next : goal.decreases-groups-loop-next
decreases-groups-loop-next l = to_go l.f (Ok (left.Group l.at l.line l.counts l.shelf))

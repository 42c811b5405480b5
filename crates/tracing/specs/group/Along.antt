-- Where the lines of a group lead, by where a pass over the file comes with them. Assumes nothing.
use Rattle.std.specs.Prelude.{ℕ, ◌+◌, ◌≤◌, ◌<◌, ◌≡◌, List, length, None, Result, Ok}
use Rattle.sheet.specs.declared.Sheet.{Sheet}
use Rattle.scan.specs.declared.line.Cut.{Cut}
use Rattle.scan.specs.line.Cutting.{Cuts}
use Rattle.judge.specs.declared.group.Held.{Held}
use Rattle.judge.specs.declared.group.Turn.TheVariants as turn
use Rattle.judge.specs.declared.group.GroupEnd.{GroupEnd}
use Rattle.judge.specs.declared.refused.Refused.{Refused}
use Rattle.judge.specs.group.Stands.{LowItem, line_in, Turns, closed_as}
use Rattle.course.specs.Stands.{at_group, at_item}
use Rattle.tracing.specs.declared.group.Far.{Far}
use Rattle.tracing.specs.declared.group.Far.TheVariants as far
use Rattle.tracing.specs.file.Comes.{Reached}
use Rattle.tracing.specs.file.Steps.{Met}

-- a pass over f that was at `start`, in a group, has come to r: behind the group, to a line where judging halts, or to the file's end
abbrev pub Goes : Sheet → ℕ → List ℕ → ℕ → ℕ → ℕ → List ℕ → Far → Type 0
Goes sh today f start from to words (far.Closed e) = Reached sh today f e.at e.line (at_group from to e.counts e.shelf) words × (start < e.at)
Goes sh today f start from to words (far.Halt at cut k x) = Met sh today f at cut k (at_item from to x) words None
Goes sh today f start from to words (far.Ended at k x) = Reached sh today f at k (at_item from to x) words × (length f ≤ at)

-- r is where the group's lines lead from line k on, which starts at `at`, whatever the interval and the earlier numbers are
abbrev pub Through : Sheet → ℕ → List ℕ → ℕ → ℕ → Held → Far → Type 0
Through sh today f at k x r = (from to : ℕ) (words : List ℕ) → Reached sh today f at k (at_item from to x) words → Goes sh today f at from to words r

-- line k, cut off f at `at`, closes the group by its own bytes, and `end` is what that comes to with its total
pub record Closing (sh : Sheet) (today : ℕ) (f : List ℕ) (at : ℕ) (cut : Cut) (k : ℕ) (x : Held) (end : Result GroupEnd Refused) : Type 0 where
  pub cuts : Cuts f at cut
  pub low : LowItem x
  pub turns : Turns sh today k (line_in f at cut.stop) x (Ok turn.Close)
  pub comes : end ≡ closed_as sh.strict cut.next (k + 1) x

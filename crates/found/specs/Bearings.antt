-- What is known of a line where a pass stands. Assumes nothing.
use Rattle.std.specs.Prelude.{◌≡◌, ℕ, Bool, true, false, List}
use Rattle.sheet.specs.declared.Sheet.{Sheet}
use Rattle.paper.specs.Batch.{Header}
use Rattle.paper.specs.Entries.{kind_of}
use Rattle.fileline.specs.declared.seen.Seen.{Seen}
use Rattle.fileline.specs.seen.Bits.{Holds}
use Rattle.tally.specs.Tally.{context_of, is_due}
use Rattle.judge.specs.group.Stands.{line_in}
use Rattle.why.specs.declared.Finding.{Finding}
use Rattle.why.specs.Walk.{why_as}
use Rattle.why.specs.Finding.{on_walked}
use Rattle.fault.specs.declared.known.Bearing.{Bearing}
use Rattle.course.specs.declared.Course.{Course}
use Rattle.course.specs.declared.Stage.{Stage}
use Rattle.course.specs.declared.Stage.TheVariants as stage
use Rattle.course.specs.Stands.{numbers_of}
use Rattle.found.specs.Numbers.{at_total}

-- a bearing of these: the account file's kind, the group's date and whether it is single, the interval, the numbers seen
abbrev pub bearing : ℕ → ℕ → Bool → ℕ → ℕ → Seen → Bearing
bearing kind date single from to seen = record { kind = kind; date = date; single = single; from = from; to = to; seen = seen }

-- 0 and false where there is no account file, and no group
abbrev pub bearing_at : Stage → ℕ → ℕ → Seen → Bearing
bearing_at stage.First from to seen = bearing 0 0 false from to seen
bearing_at (stage.File c) from to seen = bearing 0 0 false from to seen
bearing_at (stage.Group c s) from to seen = bearing s.kind 0 false from to seen
bearing_at (stage.Item x) from to seen = bearing x.shelf.kind x.opened.date x.opened.single from to seen

-- r is what is found in line k of the file f, from `at` to `stop`, where a line of its kind is due: its first fault, or the total
abbrev pub Faults : Sheet → ℕ → List ℕ → ℕ → ℕ → ℕ → Course → List ℕ → Finding → Type 0
Faults sh today f at stop k x words r =
    let t = line_in f at stop in
    (h : Header) (l : List ℕ) → h.from ≡ x.from → h.to ≡ x.to → Holds words l
    → let c = numbers_of h l x.stage in
    is_due c (kind_of t.bytes) ≡ true
    → r ≡ on_walked (why_as sh today (context_of c) t.bytes (kind_of t.bytes)) k at (at_total f c)

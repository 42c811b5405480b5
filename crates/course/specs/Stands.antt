-- Where a pass stands, as a state of the judge. Assumes nothing.
use Rattle.std.specs.Prelude.{ℕ, ◌≡◌, true, List, [], Some, None, Option}
use Rattle.sheet.specs.declared.Sheet.{Sheet}
use Rattle.paper.specs.Batch.{Header}
use Rattle.paper.specs.Lines.{Line}
use Rattle.paper.specs.Judge.{State, step}
use Rattle.fileline.specs.seen.Bits.{Holds}
use Rattle.tally.specs.Tally.{Tally, t_first, t_file}
use Rattle.tally.specs.Abs.{abs}
use Rattle.judge.specs.declared.group.Counts.{Counts}
use Rattle.judge.specs.declared.group.Shelf.{Shelf}
use Rattle.judge.specs.declared.group.Held.{Held}
use Rattle.judge.specs.group.Stands.{book_of, in_group, in_file, LowItem, LowGroup}
use Rattle.judge.specs.accountfile.Resume.{LowFile}
use Rattle.why.specs.Finding.{halted}
use Rattle.course.specs.declared.Stage.{Stage}
use Rattle.course.specs.declared.Stage.TheVariants as stage
use Rattle.course.specs.declared.Course.{Course}

-- the judge's numbers, with the header and the first three digits of earlier account files' numbers
abbrev pub numbers_of : Header → List ℕ → Stage → Tally
numbers_of h l stage.First = t_first
numbers_of h l (stage.File c) = t_file (book_of h l c)
numbers_of h l (stage.Group c s) = in_file h l c s
numbers_of h l (stage.Item x) = in_group h l x

-- they are small, whatever the header and the earlier numbers are
abbrev pub Low : Stage → Type 0
Low stage.First = Unit {0}
Low (stage.File c) = LowFile c
Low (stage.Group c s) = LowGroup c s
Low (stage.Item x) = LowItem x

-- before the first line there are no earlier numbers
abbrev pub Fresh : Stage → List ℕ → Type 0
Fresh stage.First l = l ≡ []
Fresh (stage.File c) l = Unit {0}
Fresh (stage.Group c s) l = Unit {0}
Fresh (stage.Item x) l = Unit {0}

-- The pass stands at x, and the words hold the earlier numbers: it comes to the numbers of the judge's state.
pub record Stands (x : Course) (words : List ℕ) (st : State) : Type 0 where
  pub header : Header
  pub earlier : List ℕ
  pub first : header.from ≡ x.from
  pub last : header.to ≡ x.to
  pub holds : Holds words earlier
  pub fresh : Fresh x.stage earlier
  pub numbers : abs st ≡ numbers_of header earlier x.stage

-- the numbers stay small
abbrev pub LowMove : Option Course → Type 0
LowMove (Some y) = Low y.stage
LowMove None = Unit {0}

-- Line k, the line t, leads from x to r, and the words from `before` to `after`: on, where judging goes on, and halts where it halts.
abbrev pub Leads : Sheet → ℕ → ℕ → Line → Course → List ℕ → List ℕ → Option Course → Type 0
Leads sh today k t x before after (Some y) = (st : State) → Stands x before st → Stands y after (step sh today k t st)
Leads sh today k t x before after None = (after ≡ before) × ((st : State) → Stands x before st → halted (step sh today k t st) ≡ true)

-- ---- where a pass stands, by its stage

abbrev pub at_first : ℕ → ℕ → Course
at_first from to = record { from = from; to = to; stage = stage.First }

abbrev pub at_file : ℕ → ℕ → Counts → Course
at_file from to c = record { from = from; to = to; stage = stage.File c }

abbrev pub at_group : ℕ → ℕ → Counts → Shelf → Course
at_group from to c s = record { from = from; to = to; stage = stage.Group c s }

abbrev pub at_item : ℕ → ℕ → Held → Course
at_item from to x = record { from = from; to = to; stage = stage.Item x }

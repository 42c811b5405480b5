-- What a file comes to, and what is so where a pass over it has come to a line. Assumes nothing.
use Rattle.std.specs.Prelude.{ℕ, ◌+◌, ◌-◌, ◌≤◌, min, ◌≡◌, List, length, Err, Result, Ok}
use Rattle.sheet.specs.declared.Sheet.{Sheet}
use Rattle.paper.specs.Batch.{Batch, Header, things}
use Rattle.paper.specs.Lines.{lines_of, lines_from}
use Rattle.paper.specs.Judge.{Refused, Accepted, State, at_first, run, judge}
use Rattle.why.specs.Finding.{halt_on, found_in}
use Rattle.course.specs.declared.Course.{Course}
use Rattle.course.specs.declared.Stage.TheVariants as stage
use Rattle.course.specs.Stands.{Low, Stands}
use Rattle.why.specs.declared.Finding.{Finding}
use Rattle.tracing.specs.declared.file.Tallied.{Tallied}

-- an accepted file: its counts, no more than 1,000 account files of 99,999 items can have
pub record Passes (sh : Sheet) (today : ℕ) (f : List ℕ) (rows warnings : ℕ) : Type 0 where
  pub header : Header
  pub batch : Batch
  pub judged : judge sh today f ≡ Accepted header batch warnings
  pub counted : length (things batch) ≡ rows
  pub rows_low : rows ≤ 199999001
  pub warnings_low : warnings ≤ 799992001

-- a refused file: what is found in it has the refusal's number, line and byte
abbrev pub Comes : Sheet → ℕ → List ℕ → Result Tallied Finding → Type 0
Comes sh today f (Err x) = (x ≡ found_in sh today f) × (judge sh today f ≡ Refused x.number x.line x.byte)
Comes sh today f (Ok p) = Passes sh today f p.rows p.warnings

-- A pass over f has come to line k, which starts at `at`, and stands at x, where the judge's state is st: where judging halts, and what it answers,
-- is the same from here on.
pub record At (sh : Sheet) (today : ℕ) (f : List ℕ) (at k : ℕ) (x : Course) (words : List ℕ) (st : State) : Type 0 where
  pub stands : Stands x words st
  pub halts : halt_on sh today 1 (lines_of 0 f) at_first ≡ halt_on sh today k (lines_from f at) st
  pub runs : judge sh today f ≡ run sh today (length f) k (lines_from f at) st
  pub low : Low x.stage
  pub inside : at ≤ length f
  pub lines : k ≤ at + 1 - min at 1
  pub top : at ≡ 0 → x.stage ≡ stage.First

-- .. with some state of the judge
pub record Reached (sh : Sheet) (today : ℕ) (f : List ℕ) (at k : ℕ) (x : Course) (words : List ℕ) : Type 0 where
  pub state : State
  pub held : At sh today f at k x words state

-- r is what the file f comes to where it ends, and line k would be there, with the pass at x
abbrev pub AtEnd : List ℕ → ℕ → Course → Result Tallied Finding → Type 0
AtEnd f k x r = (sh : Sheet) (today at : ℕ) (words : List ℕ) → length f ≤ at → Reached sh today f at k x words → Comes sh today f r

-- Where a line, or the lines of a group, lead a pass over a whole file. Assumes nothing.
use Rattle.std.specs.Prelude.{ℕ, ◌<◌, List, Option, Result}
use Rattle.sheet.specs.declared.Sheet.{Sheet}
use Rattle.scan.specs.declared.line.Cut.{Cut}
use Rattle.scan.specs.line.Cutting.{Cuts}
use Rattle.judge.specs.group.Stands.{line_in}
use Rattle.why.specs.declared.Finding.{Finding}
use Rattle.course.specs.declared.Course.{Course}
use Rattle.course.specs.Stands.{LowMove, Leads}
use Rattle.std.specs.declared.ops.ControlFlow.{ControlFlow}
use Rattle.std.specs.declared.ops.ControlFlow.TheVariants.{Continue, Break}
use Rattle.tracing.specs.declared.file.Tallied.{Tallied}
use Rattle.tracing.specs.declared.file.Mark.{Mark}
use Rattle.tracing.specs.file.Comes.{Comes, Reached}

-- from `at` to a place behind it, with these words; or to what the file comes to
abbrev pub Steps : Sheet → ℕ → List ℕ → ℕ → List ℕ → ControlFlow (Result Tallied Finding) Mark → Type 0
Steps sh today f at words (Continue m) = Reached sh today f m.at m.line m.x words × (at < m.at)
Steps sh today f at words (Break o) = Comes sh today f o

-- a pass has come to line k, which is cut off f at `at`; it leads from x to m, and to these words
pub record Met (sh : Sheet) (today : ℕ) (f : List ℕ) (at : ℕ) (cut : Cut) (k : ℕ) (x : Course) (after : List ℕ) (m : Option Course) : Type 0 where
  pub before : List ℕ
  pub reached : Reached sh today f at k x before
  pub cuts : Cuts f at cut
  pub leads : Leads sh today k (line_in f at cut.stop) x before after m
  pub low : LowMove m

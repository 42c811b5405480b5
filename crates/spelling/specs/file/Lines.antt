-- The lines that one row adds to the file. Document 01, "Canonical spelling". Assumes nothing.
use Rattle.std.specs.Prelude.{ℕ, ◌≡◌, Bool, true, false, List, [], ◌++◌}
use Rattle.base.specs.Put.{Wrote}
use Rattle.sheet.specs.declared.Sheet.{Sheet}
use Rattle.paper.specs.Batch.{Thing, a_file, a_group, an_item, misnumbered, strange}
use Rattle.paper.specs.Proper.{Stage, need_file, any}
use Rattle.paper.specs.FileLine.{spell_file}
use Rattle.paper.specs.GroupLine.{spell_group}
use Rattle.paper.specs.ItemLine.{spell_item}
use Rattle.roundtrip.specs.flat.Flat.{line_of, group_ends, file_ends, group_sum}
use Rattle.spelling.specs.declared.file.Step.{Step}

-- behind an item closing lines are due, and elsewhere none
abbrev pub stage_when : Bool → Stage
stage_when true = any
stage_when false = need_file

-- a row's own line, and the closing lines that are due before it; ts are the rows behind it
unfoldable pub row_lines : Sheet → Bool → Thing → List Thing → List ℕ
row_lines sh due (a_file kind number) ts = file_ends (stage_when due) ++ line_of (spell_file sh kind number)
row_lines sh due (a_group date payer) ts = group_ends (stage_when due) ++ line_of (spell_group sh payer (group_sum ts) date)
row_lines sh due (an_item x) ts = line_of (spell_item sh x)
row_lines sh due (misnumbered x) ts = []
row_lines sh due strange ts = []

-- are closing lines due behind the row?
unfoldable pub due_after : Bool → Thing → Bool
due_after due (a_file kind number) = false
due_after due (a_group date payer) = false
due_after due (an_item x) = true
due_after due (misnumbered x) = due
due_after due strange = due

-- the lines of the row x, before the rows ts, were put into o at `at`, and o1 is what was left
pub record Filled (sh : Sheet) (due : Bool) (x : Thing) (ts : List Thing) (o : List ℕ) (at : ℕ) (o1 : List ℕ) (step : Step) : Type 0 where
  pub wrote : Wrote o at (row_lines sh due x ts) o1 step.next
  pub after : step.due ≡ due_after due x

-- What one line leaves of the second pass. Document 01, "What the library handles"; docs/ROWS.md. Assumes nothing.
use Rattle.std.specs.Prelude.{ℕ, ◌≡◌, Bool, List}
use Rattle.base.specs.Put.{Wrote}
use Rattle.paper.specs.Entries.{Counted}
use Rattle.paper.specs.Words.{rows_bytes}
use Rattle.paper.specs.Rows.{line_row, single_behind}
use Rattle.fill.specs.declared.file.Step.{Step}

-- The line starts at `at` and was read as r. Its row, if it has one, is put at `next`, and the items that follow it are read as those of
-- the group that it begins, or else as before.
pub record Stepped (o : List ℕ) (next : ℕ) (single : Bool) (at : ℕ) (r : Counted) (o1 : List ℕ) (step : Step) : Type 0 where
  pub wrote : Wrote o next (rows_bytes (line_row at r)) o1 step.next
  pub after : step.single ≡ single_behind single r

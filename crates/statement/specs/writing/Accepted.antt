-- Rows that were judged and accepted. Document 02, W-204. Assumes nothing.
use Rattle.std.specs.Prelude.{ℕ, ◌+◌, ◌/◌, ◌≤◌, ◌≡◌, List, length}
use Rattle.gpc.specs.Statements.{Statement, accepted}
use Rattle.gpc.specs.Answers.{row_count, judge_rows}

-- they hold statements, in so many rows
pub record Accepted (rows : List ℕ) (count : ℕ) : Type 0 where
  pub statements : List Statement
  pub judged : judge_rows rows ≡ accepted statements
  pub counted : count ≡ row_count statements
  pub few : count ≤ length rows / 136 + 1

-- Rows that are left of a batch that passed. Document 01, "The batch". Assumes nothing.
use Rattle.std.specs.Prelude.{ℕ, ◌≤◌, ◌≡◌, List}
use Rattle.paper.specs.Batch.{Thing, most14}
use Rattle.paper.specs.Proper.{Before, fine, rows_proper}

-- some rows stand before them, and nothing is wrong from row k on
pub record Passing (ts : List Thing) : Type 0 where
  pub k : ℕ
  pub before : Before
  pub low : before.sum ≤ most14
  pub rest : rows_proper k before ts ≡ fine

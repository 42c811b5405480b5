-- What reading statements tells its caller, and what its second pass is given and leaves. Document 02, W-204. Assumes nothing.
use Rattle.std.specs.Prelude.{ℕ, ◌≡◌, List}
use Rattle.gpc.specs.Statements.{Statement, accepted}
use Rattle.gpc.specs.Answers.{StatementAnswer, row_count, judge_file}
use Rattle.statement.specs.declared.reading.AboStatement.{AboStatement}

-- the number, its line and byte, the count of rows, the rows needed
abbrev pub told : AboStatement → StatementAnswer
told a = record { number = a.number; line = a.line; byte = a.byte; rows = a.rows; needed = a.needed }

-- the file was judged and accepted, with so many records
pub record Accepted (f : List ℕ) (count : ℕ) : Type 0 where
  pub statements : List Statement
  pub judged : judge_file f ≡ accepted statements
  pub counted : count ≡ row_count statements

-- What an answer on statements says together with the bytes it leaves. Document 02, W-204; document 01, "Numbers returned". Assumes nothing.
use Rattle.std.specs.Prelude.{ℕ, ◌*◌, ◌/◌, ◌≤◌, ◌≡◌, List, length, take}
use Rattle.paper.specs.Writing.{written_in, output_after}
use Rattle.gpc.specs.Statements.{Statement, things}
use Rattle.gpc.specs.StatementRows.{statement_row, things_in}
use Rattle.gpc.specs.Answers.{StatementAnswer, accepted_as, row_count, statement_answer, statement_rows, statement_draft}

-- lent rows hold these statements
abbrev pub Hold : List ℕ → List Statement → Type 0
Hold rows ss = things_in rows ≡ things ss

-- ---- reading

-- A file is accepted as these statements: the answer a says so, and the rows at the front of the bytes that are left hold them.
pub record Accepts (a : StatementAnswer) (left : List ℕ) (ss : List Statement) : Type 0 where
  pub answer : a ≡ accepted_as (row_count ss)
  pub holds : Hold (take (statement_row * row_count ss) left) ss

-- reading the file f into lent bytes accepts it so
abbrev pub ReadsAs : List ℕ → List ℕ → List Statement → Type 0
ReadsAs f lent ss = Accepts (statement_answer f lent) (statement_rows f lent) ss

-- ---- writing

-- Writing puts the file s into the lent output: the answer says so, and s stands in front of the old bytes.
pub record WritesAs (rows out s : List ℕ) : Type 0 where
  pub answer : written_in (length out) (statement_draft rows) ≡ record { number = 0; row = 0; field = 0; bytes = length s }
  pub stands : take (length s) (output_after out (statement_draft rows)) ≡ s

-- ---- one after the other

-- Rows were written, and the file f was read into lent bytes, with the answer a and what is left in them: the rows hold statements, and with
-- room for these f is accepted as just them.
pub record ComesBack (rows f lent : List ℕ) (a : StatementAnswer) (left : List ℕ) : Type 0 where
  pub statements : List Statement
  pub held : Hold rows statements
  pub back : row_count statements ≤ length lent / statement_row → Accepts a left statements

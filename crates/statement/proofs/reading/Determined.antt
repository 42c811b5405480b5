-- An answer of reading statements is known by what it tells. Assumes nothing.
use mathlib.Core.Path.{◌≡◌, ap}
use Rattle.gpc.specs.Answers.{StatementAnswer}
use Rattle.statement.specs.declared.reading.AboStatement.{AboStatement}
use Rattle.statement.specs.reading.Told.{told}

-- the answer that tells this
abbrev answer_for : StatementAnswer → AboStatement
answer_for r = record { number = r.number; line = r.line; byte = r.byte; rows = r.rows; needed = r.needed }

-- two answers that tell the same are the same
pub told-one : (a b : AboStatement) → told a ≡ told b → a ≡ b
told-one a b e = ap answer_for e

-- `statement_write_and_read`: what is written comes back. Assumes nothing.
use borrow.Author.Rules.{rules}
use native.Mathlib.Omega.{arith}
use Rattle.demands.proofs.Round.{inside, statements-returned}
use Rattle.demands.proofs.statement_write_and_read.Goals as goal

pub returns-then-written-ne0 : goal.returns-then-written-ne0
returns-then-written-ne0 c = λ z. absurd (omega (arith, z))

pub statement_read_front-read-requires-2 : goal.statement_read_front-read-requires-2
statement_read_front-read-requires-2 c = search (inside, rules)

pub returns : goal.returns
returns c = search (statements-returned, rules)

-- `write_and_read`: what is written comes back.
use borrow.Author.Rules.{rules}
use native.Mathlib.Omega.{arith}
use Rattle.demands.proofs.Round.{inside, returned}
use Rattle.demands.proofs.write_and_read.Goals as goal

pub returns-then-written-ne0 : goal.returns-then-written-ne0
returns-then-written-ne0 c = λ z. absurd (omega (arith, z))

pub read_front-read-requires-2 : goal.read_front-read-requires-2
read_front-read-requires-2 c = search (inside, rules)

pub returns : goal.returns
returns c = search (returned, rules)

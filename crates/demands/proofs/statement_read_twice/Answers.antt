-- `statement_read_twice`: two readings of one file of statements, into rows lent alike, answer alike and leave the same. Assumes nothing.
use Rattle.demands.proofs.Twice.{statements-alike, statement-rows-alike}
use Rattle.demands.proofs.statement_read_twice.Goals as goal

pub returns : goal.returns
returns c = record { first_value = search statements-alike; a_after = search statement-rows-alike }

-- `statement_write_twice`: two writings of the same statements, into outputs lent alike, answer alike and leave the same. Assumes nothing.
use Rattle.demands.proofs.Twice.{written-alike, output-alike}
use Rattle.demands.proofs.statement_write_twice.Goals as goal

pub returns : goal.returns
returns c = record { first_value = search written-alike; a_after = search output-alike }

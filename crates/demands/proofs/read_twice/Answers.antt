-- `read_twice`: two readings of one file, into rows lent alike, answer alike and leave the same.
use Rattle.demands.proofs.Twice.{read_alike, rows_alike}
use Rattle.demands.proofs.read_twice.Goals as goal

pub returns : goal.returns
returns c = record { first_value = search read_alike; a_after = search rows_alike }

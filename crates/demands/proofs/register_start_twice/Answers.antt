-- `register_start_twice`: a day started in registers lent alike is answered alike and leaves the same.
use Rattle.demands.proofs.Twice.{start-alike, started-alike}
use Rattle.demands.proofs.register_start_twice.Goals as goal

pub returns : goal.returns
returns c = record { first_value = search start-alike; a_after = search started-alike }

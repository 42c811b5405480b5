-- `read_registered_twice`: two readings of one file, into rows and against registers lent alike, answer alike and leave the same.
use Rattle.demands.proofs.Twice.{registered-alike, registered-rows-alike, registers-alike}
use Rattle.demands.proofs.read_registered_twice.Goals as goal

pub returns : goal.returns
returns c = record { first_value = search registered-alike; a_after = search registered-rows-alike; c_after = search registers-alike }

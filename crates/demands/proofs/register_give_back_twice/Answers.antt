-- `register_give_back_twice`: a number given back to registers lent alike is answered alike and leaves the same.
use Rattle.demands.proofs.Twice.{give-alike, given-alike}
use Rattle.demands.proofs.register_give_back_twice.Goals as goal

pub returns : goal.returns
returns c = record { first_value = search give-alike; a_after = search given-alike }

-- `findings_twice`: what is found in one file, listed twice into bytes lent alike, is answered alike and left the same.
use Rattle.demands.proofs.Twice.{lists-alike, listed-alike}
use Rattle.demands.proofs.findings_twice.Goals as goal

pub returns : goal.returns
returns c = record { first_value = search lists-alike; a_after = search listed-alike }

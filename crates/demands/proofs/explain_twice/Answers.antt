-- `explain_twice`: two explanations of one file, into outputs lent alike, answer alike and leave the same.
use Rattle.demands.proofs.Twice.{explained-alike, output-alike}
use Rattle.demands.proofs.explain_twice.Goals as goal

pub returns : goal.returns
returns c = record { first_value = search explained-alike; a_after = search output-alike }

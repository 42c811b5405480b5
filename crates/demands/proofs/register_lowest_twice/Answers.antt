-- `register_lowest_twice`: asked twice, a register has the same lowest free number.
use Rattle.demands.proofs.Twice.{asked-alike}
use Rattle.demands.proofs.register_lowest_twice.Goals as goal

pub returns : goal.returns
returns c = search asked-alike

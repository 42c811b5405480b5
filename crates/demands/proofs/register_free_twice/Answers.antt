-- `register_free_twice`: asked twice, a register has as many free numbers.
use Rattle.demands.proofs.Twice.{asked-alike}
use Rattle.demands.proofs.register_free_twice.Goals as goal

pub returns : goal.returns
returns c = search asked-alike

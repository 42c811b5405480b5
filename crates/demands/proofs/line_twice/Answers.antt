-- `line_twice`: a line of one file is found twice as the same.
use Rattle.demands.proofs.Twice.{line-alike}
use Rattle.demands.proofs.line_twice.Goals as goal

pub returns : goal.returns
returns c = search line-alike

-- `read_long` reads RRRRMMDD.
use Rattle.std.proofs.lemmas.Result.{err_from_is_err_and}
use Rattle.paper.specs.Days.{long_day}
use Rattle.calendar.proofs.Reading.{reading}
use Rattle.calendar.proofs.read_long.Goals as goal

pub returns-in_err-n : goal.returns-in_err-n
unfolding long_day
returns-in_err-n c =
    let p = err_from_is_err_and c.from_residual.result c.from_residual.ensures.1 in
    rw (p.1, p.2) (search (reading, c.in_err-n.was))

pub returns : goal.returns
unfolding long_day
returns c = search (reading, c.in_ok-n.was)

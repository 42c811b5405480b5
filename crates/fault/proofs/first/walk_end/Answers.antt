-- `walk_end`: the interval's end, of an interval that begins at `start`, and the rest. Assumes nothing.
use Rattle.std.proofs.lemmas.Result.{err_from_is_err_and}
use Rattle.why.specs.Names.{field_number}
use Rattle.why.specs.Fields.{rules_of}
use Rattle.fault.proofs.first.Places.{ends}
use Rattle.fault.proofs.first.walk_end.Goals as goal

pub returns-then-n-lt46 : goal.returns-then-n-lt46
unfolding rules_of field_number
returns-then-n-lt46 c = search ends

pub returns-in_err-in_line : goal.returns-in_err-in_line
unfolding rules_of field_number
returns-in_err-in_line c =
    let p = err_from_is_err_and c.from_residual.result c.from_residual.ensures.1 in
    rw (p.1, p.2) (search (ends, c.in_err-in_line.was))

pub returns : goal.returns
unfolding rules_of field_number
returns c = search (ends, c.in_ok-in_line.was)

-- `walk_name`: the name and what follows it. Assumes nothing.
use Rattle.std.proofs.lemmas.Result.{err_from_is_err_and}
use Rattle.why.specs.Names.{field_number}
use Rattle.why.specs.Fields.{rules_of}
use Rattle.fault.proofs.first.Places.{names}
use Rattle.fault.proofs.first.walk_name.Goals as goal

pub returns-then-n-lt30 : goal.returns-then-n-lt30
unfolding rules_of field_number
returns-then-n-lt30 c = search names

pub returns-in_err-in_line : goal.returns-in_err-in_line
unfolding rules_of field_number
returns-in_err-in_line c =
    let p = err_from_is_err_and c.from_residual.result c.from_residual.ensures.1 in
    rw (p.1, p.2) (search (names, c.in_err-in_line.was))

pub returns : goal.returns
unfolding rules_of field_number
returns c = search (names, c.in_ok-in_line.was)

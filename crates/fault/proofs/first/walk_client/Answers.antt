-- `walk_client`: the client number and what follows it. Assumes nothing.
use Rattle.std.proofs.lemmas.Result.{err_from_is_err_and}
use Rattle.why.specs.Names.{field_number}
use Rattle.why.specs.Fields.{rules_of}
use Rattle.fault.proofs.first.Places.{clients}
use Rattle.fault.proofs.first.walk_client.Goals as goal

pub returns-then-n-lt40 : goal.returns-then-n-lt40
unfolding rules_of field_number
returns-then-n-lt40 c = search clients

pub returns-in_err-in_line : goal.returns-in_err-in_line
unfolding rules_of field_number
returns-in_err-in_line c =
    let p = err_from_is_err_and c.from_residual.result c.from_residual.ensures.1 in
    rw (p.1, p.2) (search (clients, c.in_err-in_line.was))

pub returns : goal.returns
unfolding rules_of field_number
returns c = search (clients, c.in_ok-in_line.was)

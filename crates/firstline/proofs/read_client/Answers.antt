-- `read_client` reads from the client number on. Assumes nothing.
use Rattle.std.proofs.lemmas.Result.{err_from_is_err_and}
use Rattle.firstline.specs.Stages.{on_client}
use Rattle.firstline.proofs.Steps.{fields}
use Rattle.firstline.proofs.read_client.Goals as goal

pub returns-then-s-lt40 : goal.returns-then-s-lt40
unfolding on_client
returns-then-s-lt40 c = search fields

pub returns-in_err-client : goal.returns-in_err-client
unfolding on_client
returns-in_err-client c =
    let p = err_from_is_err_and c.from_residual.result c.from_residual.ensures.1 in
    rw (p.1, p.2) (search (fields, c.in_err-client.was))

pub returns : goal.returns
unfolding on_client
returns c = search (fields, c.in_ok-client.was)

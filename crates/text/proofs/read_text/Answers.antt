-- `text::read_text` meets its contract. Assumes nothing.
use Rattle.std.proofs.lemmas.Result.{err_from_is_err_and}
use Rattle.text.proofs.Exits.{outs}
use Rattle.text.proofs.read_text.Goals as goal

pub returns-in_err-begin_text-clause-result_value : goal.returns-in_err-begin_text-clause-result_value
returns-in_err-begin_text-clause-result_value c =
    let p = err_from_is_err_and c.from_residual.result c.from_residual.ensures.1 in
    rw (p.1, p.2) (search (outs, c.in_err-begin_text.was))

pub returns-in-Name-clause-result_value : goal.returns-in-Name-clause-result_value
returns-in-Name-clause-result_value c = search (outs, c.in_ok-begin_text.was)

pub returns-in-Name-clause-inside : goal.returns-in-Name-clause-inside
returns-in-Name-clause-inside c = search (outs, c.in_ok-begin_text.was)

pub returns-in-Message-clause-result_value : goal.returns-in-Message-clause-result_value
returns-in-Message-clause-result_value c = search (outs, c.in_ok-begin_text.was)

pub returns-clause-result_value : goal.returns-clause-result_value
returns-clause-result_value c = search outs

-- `group_line` meets its contract: the payer where there is one, and what follows; refusals at their offsets. Assumes nothing.
use borrow.Author.Rules.{rules}
use Rattle.std.proofs.lemmas.Result.{err_from_is_err_and}
use Rattle.groupline.proofs.Fields.{bounds}
use Rattle.groupline.proofs.Lines.{lines}
use Rattle.groupline.proofs.group_line.Goals as goal

pub returns-in_err-payer : goal.returns-in_err-payer
returns-in_err-payer c =
    let p = err_from_is_err_and c.from_residual.result c.from_residual.ensures.1 in
    rw (p.1, p.2) (record { tells = search (lines, c.in_err-payer.was); low = tt })

pub returns-then-s-payer : goal.returns-then-s-payer
returns-then-s-payer c = record { tells = search (lines, c.in_ok-payer.was); low = tt }

pub returns-then-has_payer : goal.returns-then-has_payer
returns-then-has_payer c = record { tells = search (lines, c.in_ok-payer.was); low = search (bounds, rules) }

pub returns : goal.returns
returns c = record { tells = search lines; low = search (bounds, rules) }

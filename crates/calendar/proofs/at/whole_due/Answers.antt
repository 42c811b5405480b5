-- `whole_due` meets its contract: the field by its bytes. Assumes nothing.
use borrow.Author.Rules.{rules}
use Rattle.std.proofs.lemmas.Result.{err_from_is_err_and}
use Rattle.scan.proofs.line.Fields.{end-within}
use Rattle.calendar.proofs.at.Exits.{whole-real, whole-days}
use Rattle.calendar.proofs.at.whole_due.Goals as goal

pub if_allowed-requires : goal.if_allowed-requires
if_allowed-requires c = search (whole-real, rules, c.in_ok-d.was)

pub returns-in_err-d : goal.returns-in_err-d
returns-in_err-d c =
    let p = err_from_is_err_and c.from_residual.result c.from_residual.ensures.1 in
    rw (p.1, p.2) (search (whole-days, c.in_err-d.was))

pub returns : goal.returns
returns c = search (whole-days, c.in_ok-d.was)

pub slice_bounds-read_day-end : goal.slice_bounds-read_day-end
slice_bounds-read_day-end c = search (end-within, rules)

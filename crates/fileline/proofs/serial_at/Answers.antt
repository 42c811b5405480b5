-- `serial_at` meets its contract: a number that is read on. Assumes nothing.
use Rattle.std.proofs.Common.{rules}
use Rattle.std.proofs.lemmas.Result.{err_from_is_err_and}
use Rattle.numeral.proofs.field.Onward.{onwards}
use Rattle.fileline.proofs.Fields.{fields, serial-below}
use Rattle.fileline.proofs.serial_at.Goals as goal

pub number_fault-requires : goal.number_fault-requires
number_fault-requires c = search (serial-below, rules)

pub returns-in_err-serial : goal.returns-in_err-serial
returns-in_err-serial c =
    let p = err_from_is_err_and c.from_residual.result c.from_residual.ensures.1 in
    rw (p.1, p.2) (search (fields, onwards, c.in_err-serial.was))

pub returns-in-None : goal.returns-in-None
returns-in-None c = search (fields, onwards, c.in_ok-serial.was)

pub returns-in-Some : goal.returns-in-Some
returns-in-Some c = search (fields, onwards, c.in_ok-serial.was)

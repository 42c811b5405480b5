-- `any_due_bank` meets its contract: any field, and its bank may be due. Assumes nothing.
use borrow.Author.Rules.{rules}
use Rattle.std.proofs.lemmas.Result.{err_from_is_err_and}
use Rattle.bank.proofs.at.Exits.{dues}
use Rattle.bank.proofs.at.any_due_bank.Goals as goal

pub returns-in_err-field : goal.returns-in_err-field
returns-in_err-field c =
    let p = err_from_is_err_and c.from_residual.result c.from_residual.ensures.1 in
    rw (p.1, p.2) (search (dues, c.in_err-field.was))

pub bank_due-requires : goal.bank_due-requires
bank_due-requires c = search (dues, rules, c.in_ok-field.was)

pub returns-then-bank_due : goal.returns-then-bank_due
returns-then-bank_due c = search (dues, c.in_ok-field.was)

pub returns : goal.returns
returns c = search (dues, c.in_ok-field.was)

-- `total_and_date` meets its contract: the two fields and the end of the line, one after the other. Assumes nothing.
use borrow.Author.Rules.{rules}
use Rattle.std.proofs.lemmas.Result.{err_from_is_err_and}
use Rattle.groupline.proofs.Fields.{total-counted, groups, bounds}
use Rattle.groupline.proofs.total_and_date.Goals as goal

pub returns-in_err-total : goal.returns-in_err-total
returns-in_err-total c =
    let p = err_from_is_err_and c.from_residual.result c.from_residual.ensures.1 in
    rw (p.1, p.2) (record { result_value = (λ payer. total-counted _ _ _ payer _ _ _ (search (groups, c.in_err-total.was) depth 12)); marked = tt; low = tt })

pub returns-then-s-total : goal.returns-then-s-total
returns-then-s-total c =
    record { result_value = (λ payer. total-counted _ _ _ payer _ _ _ (search (groups, c.in_ok-total.was) depth 12)); marked = tt; low = tt }

pub returns-in_err-due : goal.returns-in_err-due
returns-in_err-due c =
    let p = err_from_is_err_and c.from_residual-in_err-due.result c.from_residual-in_err-due.ensures.1 in
    rw (p.1, p.2) (record { result_value = (λ payer. total-counted _ _ _ payer _ _ _ (search (groups, c.in_ok-total.was, c.in_err-due.was) depth 12)); marked = tt; low = tt })

pub returns-then-due-s : goal.returns-then-due-s
returns-then-due-s c =
    record { result_value = (λ payer. total-counted _ _ _ payer _ _ _ (search (groups, c.in_ok-total.was, c.in_ok-due.was) depth 12)); marked = tt; low = tt }

pub due_warnings-warnings-requires : goal.due_warnings-warnings-requires
due_warnings-warnings-requires c = search (bounds, rules, c.in_ok-due.was)

pub returns : goal.returns
returns c =
    record {
      result_value = (λ payer. total-counted _ _ _ payer _ _ _ (search (groups, c.in_ok-total.was, c.in_ok-due.was) depth 12));
      marked = search (bounds, rules);
      low = search (bounds, rules, c.in_ok-total.was);
    }

-- What the answers of an account's judge and taker stand for in document 01, "Numbers returned". Assumes nothing.
use Rattle.std.specs.Prelude.{Bool, Result, Ok, Err}
use Rattle.refusal.specs.declared.Refusal.{Refusal}
use Rattle.refusal.specs.Numbers.{number_of}
use Rattle.paper.specs.Accounts.{account, Account as Said}
use Rattle.numeral.specs.field.At.{At, found, missed}
use Rattle.account.specs.declared.at.Account.{Account}
use Rattle.account.specs.declared.at.PayerEnd.{PayerEnd}

-- whether a group's payer is nobody, with its field's end, or the number of the refusal
abbrev pub told_payer : Result PayerEnd Refusal → At Bool
told_payer (Ok p) = found p.nobody p.end
told_payer (Err r) = missed (number_of r)

-- an account that was taken, with its field's end
abbrev pub told_account : Account → At Said
told_account r = found (account r.prefix r.base) r.end

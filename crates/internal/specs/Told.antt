-- What the answer of the internal form's reader stands for. Document 02, W-204. Assumes nothing.
use Rattle.std.specs.Prelude.{Result, Ok, Err}
use Rattle.refusal.specs.declared.Refusal.{Refusal}
use Rattle.refusal.specs.Numbers.{number_of}
use Rattle.paper.specs.Read.{Field, value, fault}
use Rattle.paper.specs.Accounts.{Account, account}
use Rattle.internal.specs.declared.AccountParts.{AccountParts}

-- the account that was read, or the number of the refusal
abbrev pub told : Result AccountParts Refusal → Field Account
told (Ok a) = value (account a.prefix a.base)
told (Err r) = fault (number_of r)

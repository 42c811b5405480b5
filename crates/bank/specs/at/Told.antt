-- What the answers of the bank field's judge and taker stand for. Document 01, "Numbers returned". Assumes nothing.
use Rattle.std.specs.Prelude.{ℕ, Result, Ok, Err}
use Rattle.refusal.specs.declared.Refusal.{Refusal}
use Rattle.refusal.specs.Numbers.{number_of}
use Rattle.paper.specs.BankField as paper
use Rattle.numeral.specs.field.At.{At, found, missed}
use Rattle.bank.specs.declared.at.Bank.{Bank}
use Rattle.bank.specs.declared.at.Warned.{Warned}

-- how many warnings a field gives that was judged, with its end; or the refusal's number
abbrev pub told : Result Warned Refusal → At ℕ
told (Ok w) = found w.warnings w.end
told (Err r) = missed (number_of r)

-- a field that was taken has its values, and its end
abbrev pub told_bank : Bank → At paper.Bank
told_bank r = found (record { bank = r.bank; constant = r.constant; priority = r.priority; warnings = r.warnings }) r.end

-- `worth` meets its contract. Assumes nothing.
use Rattle.std.proofs.Common.{arith, rules}
use Rattle.numeral.proofs.field.Turns.{no_digit}
use Rattle.numeral.proofs.field.worth.Goals as goal

pub returns : goal.returns
returns c = record { digit = search rules; other = λ h. no_digit _ (λ l. omega arith) }

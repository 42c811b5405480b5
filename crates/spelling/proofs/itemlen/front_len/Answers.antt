-- `spelling::itemlen::front_len` meets its contract. Assumes nothing.
use native.Mathlib.Omega.{arith}
use Rattle.spelling.proofs.itemlen.Lengths.{front_long, bank_low}
use Rattle.spelling.proofs.itemlen.front_len.Goals as goal

pub overflow_add-result-4 : goal.overflow_add-result-4
overflow_add-result-4 c = omega (arith, bank_low _ _ c.bank_len.ensures)

pub returns : goal.returns
returns c = record { value = search front_long; upper_bound = omega (arith, bank_low _ _ c.bank_len.ensures) }

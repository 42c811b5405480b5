-- `movement_tested`: an exit for each word that is refused, and one where none is, whatever is kept. Assumes nothing.
use native.Mathlib.Omega.{arith}
use borrow.Author.Rules.{rules}
use Rattle.record.proofs.row.Tested.{movement-tests, movement-passes}
use Rattle.record.proofs.row.movement_tested.Goals as goal

pub returns-then-x-gt999999 : goal.returns-then-x-gt999999
returns-then-x-gt999999 c = record { result_value = λ k. search movement-tests; small_movement_read = tt; fits_movement_read = tt }

pub returns-then-x-gt9999999999 : goal.returns-then-x-gt9999999999
returns-then-x-gt9999999999 c = record { result_value = λ k. search movement-tests; small_movement_read = tt; fits_movement_read = tt }

pub returns-then-x-gt999999-2 : goal.returns-then-x-gt999999-2
returns-then-x-gt999999-2 c = record { result_value = λ k. search movement-tests; small_movement_read = tt; fits_movement_read = tt }

pub returns-then-x-gt9999999999-2 : goal.returns-then-x-gt9999999999-2
returns-then-x-gt9999999999-2 c = record { result_value = λ k. search movement-tests; small_movement_read = tt; fits_movement_read = tt }

pub returns-then-x-gt999999999999 : goal.returns-then-x-gt999999999999
returns-then-x-gt999999999999 c = record { result_value = λ k. search movement-tests; small_movement_read = tt; fits_movement_read = tt }

pub returns-then-x-gt9999999999-3 : goal.returns-then-x-gt9999999999-3
returns-then-x-gt9999999999-3 c = record { result_value = λ k. search movement-tests; small_movement_read = tt; fits_movement_read = tt }

pub returns-then-is_code : goal.returns-then-is_code
returns-then-is_code c = record {
  result_value = λ k. movement-passes _ _ _ _ _ _ _ _ _ (omega arith) (omega arith) (omega arith) (omega arith) (omega arith) _
      c.is_code.ensures
      c.if-is_code.true
      (omega arith);
  small_movement_read = search rules;
  fits_movement_read = search rules;
}

pub returns : goal.returns
returns c = record { result_value = λ k. search movement-tests; small_movement_read = tt; fits_movement_read = tt }

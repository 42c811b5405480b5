-- `amount_fits` meets its contract: the amount, then the sum. Assumes nothing.
use native.Mathlib.Omega.{arith}
use Rattle.base.proofs.Cases.{picks}
use Rattle.rows.proofs.proper.Laws.{amount-low}
use Rattle.rows.proofs.proper.amount_fits.Goals as goal

pub overflow_add-result : goal.overflow_add-result
overflow_add-result c = omega (arith, amount-low _ _ _ c.amount_proper.ensures c.if-amount_proper.true)

pub returns-then-amount_proper : goal.returns-then-amount_proper
returns-then-amount_proper c = search picks

pub returns : goal.returns
returns c = search picks

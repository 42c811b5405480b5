-- `number_fault` meets its contract: the tests in their order. Assumes nothing.
use Rattle.base.proofs.Cases.{picks}
use Rattle.fileline.specs.Fault.{fault_in}
use Rattle.fileline.proofs.number_fault.Goals as goal

pub returns-then-first-from : goal.returns-then-first-from
unfolding fault_in
returns-then-first-from c = search picks depth 8

pub returns-then-to-first : goal.returns-then-to-first
unfolding fault_in
returns-then-to-first c = search picks depth 8

pub returns-then-has : goal.returns-then-has
unfolding fault_in
returns-then-has c = search picks depth 8

pub returns-else-interval : goal.returns-else-interval
unfolding fault_in
returns-else-interval c = search picks depth 8

pub returns-else-has : goal.returns-else-has
unfolding fault_in
returns-else-has c = search picks depth 8

-- A number gets the same refusal by a set of words and by the list that it holds. Assumes nothing.
use mathlib.Core.Path.{◌≡◌, fun_ext}
use mathlib.Core.Bool.{Bool}
use mathlib.Core.List.{List}
use Prim.Native.Nat.{ℕ}
use Rattle.paper.specs.Batch.{Header}
use Rattle.paper.specs.FileLine.{series, number_fault}
use Rattle.fileline.specs.seen.Bits.{Holds}
use Rattle.fileline.specs.Fault.{fault_in}

pub same-fault : (interval : Bool) (h : Header) (words seen : List ℕ) → Holds words seen → fault_in interval h.from h.to words ≡ number_fault interval h seen
unfolding fault_in number_fault
same-fault interval h words seen g = fun_ext (λ (n : ℕ). rw (g (series n)))

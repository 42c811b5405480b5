-- `numeral::put_pair` meets its contract: two stores. Assumes nothing.
use Rattle.std.proofs.Common.{arith, length-set}
use Rattle.numeral.proofs.Store.{stores}
use Rattle.numeral.proofs.put_pair.Goals as goal

pub bounds-out-at-2 : goal.bounds-out-at-2
bounds-out-at-2 c = simp length-set (omega arith)

pub returns : goal.returns
returns c = search stores

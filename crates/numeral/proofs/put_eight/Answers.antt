-- `numeral::put_eight` meets its contract: two fours, one behind the other. Assumes nothing.
use Rattle.std.proofs.Common.{rules}
use Rattle.numeral.proofs.Store.{stores}
use Rattle.numeral.proofs.put_eight.Goals as goal

pub put_four-requires : goal.put_four-requires
put_four-requires c = search (stores, rules)

pub returns : goal.returns
returns c = search stores

-- `numeral::put_four` meets its contract: two pairs, one behind the other. Assumes nothing.
use Rattle.std.proofs.Common.{rules}
use Rattle.numeral.proofs.Store.{stores}
use Rattle.numeral.proofs.put_four.Goals as goal

pub put_pair-requires : goal.put_pair-requires
put_pair-requires c = search (stores, rules)

pub returns : goal.returns
returns c = search stores

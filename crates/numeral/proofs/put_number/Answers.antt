-- `numeral::put_number` meets its contract: up to four digits, and fours behind them; or as many digits as n has. Assumes nothing.
use Rattle.std.proofs.Common.{rules}
use Rattle.numeral.proofs.Store.{stores}
use Rattle.numeral.proofs.put_number.Goals as goal

pub put_short-e-requires : goal.put_short-e-requires
put_short-e-requires c = search (stores, rules)

pub put_four-requires : goal.put_four-requires
put_four-requires c = search (stores, rules)

pub returns-then-n-lt100000000 : goal.returns-then-n-lt100000000
returns-then-n-lt100000000 c = search stores

pub put_short-e-requires-then-n-lt1000000000000 : goal.put_short-e-requires-then-n-lt1000000000000
put_short-e-requires-then-n-lt1000000000000 c = search (stores, rules)

pub put_eight-requires : goal.put_eight-requires
put_eight-requires c = search (stores, rules)

pub returns-then-n-lt1000000000000 : goal.returns-then-n-lt1000000000000
returns-then-n-lt1000000000000 c = search stores

pub returns : goal.returns
returns c = search stores

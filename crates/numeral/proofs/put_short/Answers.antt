-- `numeral::put_short` meets its contract: one to four digits. Assumes nothing.
use Rattle.std.proofs.Common.{rules}
use Rattle.numeral.proofs.Store.{stores}
use Rattle.numeral.proofs.put_short.Goals as goal

pub put_byte-requires : goal.put_byte-requires
put_byte-requires c = search (stores, rules)

pub returns-then-n-lt10 : goal.returns-then-n-lt10
returns-then-n-lt10 c = search stores

pub put_pair-requires : goal.put_pair-requires
put_pair-requires c = search (stores, rules)

pub returns-then-n-lt100 : goal.returns-then-n-lt100
returns-then-n-lt100 c = search stores

pub put_byte-e-requires : goal.put_byte-e-requires
put_byte-e-requires c = search (stores, rules)

pub put_pair-requires-then-n-lt1000 : goal.put_pair-requires-then-n-lt1000
put_pair-requires-then-n-lt1000 c = search (stores, rules)

pub returns-then-n-lt1000 : goal.returns-then-n-lt1000
returns-then-n-lt1000 c = search stores

pub put_four-requires : goal.put_four-requires
put_four-requires c = search (stores, rules)

pub returns : goal.returns
returns c = search stores

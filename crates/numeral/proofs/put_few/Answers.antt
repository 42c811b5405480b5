-- `numeral::put_few` meets its contract: a digit, a pair, or both. Assumes nothing.
use Rattle.numeral.proofs.Store.{stores}
use Rattle.numeral.proofs.put_few.Goals as goal

pub returns-then-k-eq0 : goal.returns-then-k-eq0
returns-then-k-eq0 c = search stores

pub returns-then-k-eq1 : goal.returns-then-k-eq1
returns-then-k-eq1 c = search stores

pub returns-then-k-eq2 : goal.returns-then-k-eq2
returns-then-k-eq2 c = search stores

pub returns : goal.returns
returns c = search stores

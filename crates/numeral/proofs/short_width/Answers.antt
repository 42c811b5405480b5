-- `numeral::short_width` meets its contract: at each return n lies between two powers of ten. Assumes nothing.
use Rattle.std.proofs.Common.{arith}
use Rattle.numeral.proofs.Wide.{one-wide, wide}
use Rattle.numeral.proofs.short_width.Goals as goal

pub returns-then-n-lt10 : goal.returns-then-n-lt10
returns-then-n-lt10 c = (one-wide _ (omega arith), omega arith)

pub returns-then-n-lt100 : goal.returns-then-n-lt100
returns-then-n-lt100 c = (wide 1 _ (omega arith) (omega arith) (omega arith), omega arith)

pub returns-then-n-lt1000 : goal.returns-then-n-lt1000
returns-then-n-lt1000 c = (wide 2 _ (omega arith) (omega arith) (omega arith), omega arith)

pub returns-then-n-lt10000 : goal.returns-then-n-lt10000
returns-then-n-lt10000 c = (wide 3 _ (omega arith) (omega arith) (omega arith), omega arith)

pub returns-then-n-lt100000 : goal.returns-then-n-lt100000
returns-then-n-lt100000 c = (wide 4 _ (omega arith) (omega arith) (omega arith), omega arith)

pub returns-then-n-lt1000000 : goal.returns-then-n-lt1000000
returns-then-n-lt1000000 c = (wide 5 _ (omega arith) (omega arith) (omega arith), omega arith)

pub returns-then-n-lt10000000 : goal.returns-then-n-lt10000000
returns-then-n-lt10000000 c = (wide 6 _ (omega arith) (omega arith) (omega arith), omega arith)

pub returns-then-n-lt100000000 : goal.returns-then-n-lt100000000
returns-then-n-lt100000000 c = (wide 7 _ (omega arith) (omega arith) (omega arith), omega arith)

pub returns-then-n-lt1000000000 : goal.returns-then-n-lt1000000000
returns-then-n-lt1000000000 c = (wide 8 _ (omega arith) (omega arith) (omega arith), omega arith)

pub returns : goal.returns
returns c = (wide 9 _ (omega arith) (omega arith) (omega arith), omega arith)

-- `ends_clean` meets its contract: the last block has all bytes from the place on. Assumes nothing.
use borrow.Author.Rules.{rules}
use Rattle.scan.proofs.block.Turns.{clean-not, clean_end}
use Rattle.scan.proofs.block.ends_clean.Goals as goal

pub returns-then-n-lt64 : goal.returns-then-n-lt64
returns-then-n-lt64 c = search clean-not

pub returns-then-from-at : goal.returns-then-from-at
returns-then-from-at c = search clean-not

pub returns : goal.returns
returns c = search (clean_end, rules)

-- `Signed::word` meets its contract: two's complement. Assumes nothing.
use Rattle.std.proofs.Common.{rules}
use Rattle.turnover.proofs.signed.Signs.{words}
use Rattle.turnover.proofs.signed.Signed.word.Goals as goal

pub returns-then-self : goal.returns-then-self
returns-then-self c = search (words, rules)

pub returns : goal.returns
returns c = search (words, rules)

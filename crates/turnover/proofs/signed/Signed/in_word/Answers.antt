-- `Signed::in_word` meets its contract: two's complement, and back. Assumes nothing.
use Rattle.std.proofs.Common.{rules}
use Rattle.turnover.proofs.signed.Signs.{words}
use Rattle.turnover.proofs.signed.Signed.in_word.Goals as goal

pub returns-then-w-lt9223372036854775808 : goal.returns-then-w-lt9223372036854775808
returns-then-w-lt9223372036854775808 c = search (words, rules)

pub returns : goal.returns
returns c = search (words, rules)

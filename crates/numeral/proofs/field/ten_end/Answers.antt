-- `ten_end` meets its contract: eight digits and those behind them, or fewer. Assumes nothing.
use Rattle.std.proofs.Common.{rules}
use Rattle.numeral.proofs.field.Symbols.{tens}
use Rattle.numeral.proofs.field.ten_end.Goals as goal

pub returns-then-s-at-lt10 : goal.returns-then-s-at-lt10
returns-then-s-at-lt10 c = search (tens, rules)

pub returns-then-eight_digits : goal.returns-then-eight_digits
returns-then-eight_digits c = search (tens, rules)

pub returns : goal.returns
returns c = search (tens, rules)

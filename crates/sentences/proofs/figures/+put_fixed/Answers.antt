-- `put_fixed` puts the last digit behind the others, which are one less.
use Rattle.std.proofs.Common.{rules}
use Rattle.sentences.proofs.Parts.{digit_by_digit}
use Rattle.sentences.proofs.figures.+put_fixed.Goals as goal

pub returns-then-k-eq0 : goal.returns-then-k-eq0
returns-then-k-eq0 t c = search (digit_by_digit, rules)

pub returns : goal.returns
returns t c = search (digit_by_digit, rules)

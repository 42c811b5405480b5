-- `spelling::linelen::payer_len` meets its contract. Assumes nothing.
use borrow.Author.Rules.{rules}
use Rattle.spelling.proofs.linelen.Lengths.{payers}
use Rattle.spelling.proofs.linelen.payer_len.Goals as goal

pub returns-then-always : goal.returns-then-always
returns-then-always c = search (payers, rules)

pub returns-then-is_nobody : goal.returns-then-is_nobody
returns-then-is_nobody c = search (payers, rules)

pub returns : goal.returns
returns c = search (payers, rules)

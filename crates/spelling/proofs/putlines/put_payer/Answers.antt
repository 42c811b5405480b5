-- `spelling::putlines::put_payer` meets its contract. Assumes nothing.
use borrow.Author.Rules.{rules}
use Rattle.spelling.proofs.putlines.Group.{payers}
use Rattle.spelling.proofs.putlines.put_payer.Goals as goal

pub put_byte-requires : goal.put_byte-requires
put_byte-requires c = search (payers, rules)

pub returns-then-always : goal.returns-then-always
returns-then-always c = search payers

pub returns-then-is_nobody : goal.returns-then-is_nobody
returns-then-is_nobody c = search payers

pub account_space-requires : goal.account_space-requires
account_space-requires c = search (payers, rules)

pub returns : goal.returns
returns c = search payers

-- `ninth_digit` meets its contract. Assumes nothing.
use borrow.Author.Rules.{rules}
use Rattle.bank.proofs.at.Taken.{ninths}
use Rattle.bank.proofs.at.ninth_digit.Goals as goal

pub digit-requires : goal.digit-requires
digit-requires c = search (ninths, rules)

pub returns-then-at-from : goal.returns-then-at-from
returns-then-at-from c = search ninths

pub returns : goal.returns
returns c = search ninths

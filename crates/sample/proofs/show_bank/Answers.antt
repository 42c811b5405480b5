-- A bank field that was judged can be taken.
use borrow.Author.Rules.{rules}
use Rattle.bank.proofs.at.Steps.{bank-says}
use Rattle.sample.proofs.show_bank.Goals as goal

pub take_bank-x-requires : goal.take_bank-x-requires
take_bank-x-requires c = search (bank-says, rules, c.in_ok-judged.was)

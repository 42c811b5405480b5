-- An account that was judged, with a space behind it, can be taken.
use borrow.Author.Rules.{rules}
use Rattle.numeral.proofs.placed.Goes.{passed-there}
use Rattle.sample.proofs.show_account.Goals as goal

pub take_account-a-requires : goal.take_account-a-requires
take_account-a-requires c = search (passed-there, rules, c.in_ok-end.was)

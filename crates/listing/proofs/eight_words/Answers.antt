-- `eight_words`: the words fill the array.
use borrow.Author.Rules.{rules}
use Rattle.listing.proofs.Putting.{entry_whole}
use Rattle.listing.proofs.eight_words.Goals as goal

pub returns : goal.returns
returns c = search (entry_whole, rules)

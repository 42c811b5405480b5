-- `behind` stands behind the next space, or at the end.
use borrow.Author.Rules.{rules}
use Rattle.listing.proofs.item.Places.{behinds}
use Rattle.listing.proofs.item.behind.Goals as goal

pub returns-then-end-s : goal.returns-then-end-s
returns-then-end-s c = search (behinds, rules)

pub returns : goal.returns
returns c = search (behinds, rules)

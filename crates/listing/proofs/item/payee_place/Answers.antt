-- `payee_place` is behind the payer, or 0.
use borrow.Author.Rules.{rules}
use Rattle.base.proofs.Cases.{picks}
use Rattle.listing.proofs.item.payee_place.Goals as goal

pub returns-then-single : goal.returns-then-single
returns-then-single c = search (picks, rules)

pub returns : goal.returns
returns c = search (picks, rules)

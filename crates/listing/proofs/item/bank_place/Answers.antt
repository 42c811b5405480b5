-- `bank_place` is behind three fields from the payee on.
use borrow.Author.Rules.{rules}
use Rattle.listing.proofs.item.Places.{bank-place}
use Rattle.listing.proofs.item.bank_place.Goals as goal

pub returns : goal.returns
returns c = search (bank-place, rules)

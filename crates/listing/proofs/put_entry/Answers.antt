-- `put_entry` puts a finding as words.
use borrow.Author.Rules.{rules}
use Rattle.listing.proofs.Putting.{entry-put}
use Rattle.listing.proofs.put_entry.Goals as goal

pub returns : goal.returns
returns c = search (entry-put, rules)

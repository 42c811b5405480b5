-- `put_digit` puts a digit that is 1 or 2.
use borrow.Author.Rules.{rules}
use Rattle.why.specs.Names.{field_number}
use Rattle.listing.specs.item.Found.{digit_warned}
use Rattle.listing.proofs.Putting.{putting}
use Rattle.listing.proofs.item.put_digit.Goals as goal

pub returns-then-d-lt1 : goal.returns-then-d-lt1
unfolding digit_warned field_number
returns-then-d-lt1 c = search (putting, rules) depth 6

pub returns-then-d-lt3 : goal.returns-then-d-lt3
unfolding digit_warned field_number
returns-then-d-lt3 c = search (putting, rules) depth 6

pub returns : goal.returns
unfolding digit_warned field_number
returns c = search (putting, rules) depth 6

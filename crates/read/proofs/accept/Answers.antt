-- `accept` puts the rows if they have room, and says so.
use borrow.Author.Rules.{rules}
use Rattle.paper.specs.Reading.{accepted_as}
use Rattle.read.proofs.Exits.{filling, limits}
use Rattle.read.proofs.accept.Goals as goal

pub returns-then-room-count : goal.returns-then-room-count
returns-then-room-count c = search filling

pub fill_rows-requires : goal.fill_rows-requires
fill_rows-requires c = search (filling, limits, rules)

pub returns : goal.returns
unfolding accepted_as
returns c = search filling

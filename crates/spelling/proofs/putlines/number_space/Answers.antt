-- `spelling::putlines::number_space` meets its contract. Assumes nothing.
use borrow.Author.Rules.{rules}
use Rattle.out.proofs.put.Room.{rooms}
use Rattle.spelling.proofs.putlines.number_space.Goals as goal

pub put_number-e-requires : goal.put_number-e-requires
put_number-e-requires c = search (rooms, rules)

pub put_byte-requires : goal.put_byte-requires
put_byte-requires c = search (rooms, rules)

pub returns : goal.returns
returns c = search rooms

-- `spelling::putlines::fixed_space` meets its contract. Assumes nothing.
use borrow.Author.Rules.{rules}
use Rattle.out.proofs.put.Room.{rooms}
use Rattle.spelling.proofs.putlines.File.{fixed-first}
use Rattle.spelling.proofs.putlines.fixed_space.Goals as goal

pub put_fixed-e-requires : goal.put_fixed-e-requires
put_fixed-e-requires c = search (fixed-first, rules)

pub put_byte-requires : goal.put_byte-requires
put_byte-requires c = search (rooms, rules)

pub returns : goal.returns
returns c = search rooms

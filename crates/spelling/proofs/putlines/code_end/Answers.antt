-- `spelling::putlines::code_end` meets its contract. Assumes nothing.
use borrow.Author.Rules.{rules}
use Rattle.out.proofs.put.Room.{rooms}
use Rattle.spelling.proofs.putlines.File.{fixed-first}
use Rattle.spelling.proofs.putlines.code_end.Goals as goal

pub put_fixed-e-requires : goal.put_fixed-e-requires
put_fixed-e-requires c = search (fixed-first, rooms, rules)

pub put_bytes-requires : goal.put_bytes-requires
put_bytes-requires c = search (fixed-first, rooms, rules)

pub returns : goal.returns
returns c = search rooms

-- `spelling::putlines::day_end` meets its contract. Assumes nothing.
use borrow.Author.Rules.{rules}
use Rattle.out.proofs.put.Room.{rooms}
use Rattle.spelling.proofs.putlines.Group.{day-first}
use Rattle.spelling.proofs.putlines.day_end.Goals as goal

pub put_day-e-requires : goal.put_day-e-requires
put_day-e-requires c = search (day-first, rooms, rules)

pub put_bytes-requires : goal.put_bytes-requires
put_bytes-requires c = search (day-first, rooms, rules)

pub returns : goal.returns
returns c = search rooms

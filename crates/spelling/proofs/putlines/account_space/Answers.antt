-- `spelling::putlines::account_space` meets its contract. Assumes nothing.
use borrow.Author.Rules.{rules}
use Rattle.out.proofs.put.Room.{rooms}
use Rattle.spelling.proofs.putlines.account_space.Goals as goal

pub put_account-e-requires : goal.put_account-e-requires
put_account-e-requires c = search (rooms, rules)

pub put_byte-requires : goal.put_byte-requires
put_byte-requires c = search (rooms, rules)

pub returns : goal.returns
returns c = search rooms

-- `spelling::putitem::two_numbers` meets its contract. Assumes nothing.
use borrow.Author.Rules.{rules}
use Rattle.out.proofs.put.Room.{rooms}
use Rattle.spelling.proofs.putitem.two_numbers.Goals as goal

pub number_space-e-requires : goal.number_space-e-requires
number_space-e-requires c = search (rooms, rules)

pub number_space-requires : goal.number_space-requires
number_space-requires c = search (rooms, rules)

pub returns : goal.returns
returns c = search (rooms)

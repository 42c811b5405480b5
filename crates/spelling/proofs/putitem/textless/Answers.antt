-- `spelling::putitem::textless` meets its contract. Assumes nothing.
use Rattle.base.proofs.Cases.{picks}
use Rattle.spelling.proofs.putitem.textless.Goals as goal

pub returns-then-fixed : goal.returns-then-fixed
returns-then-fixed c = search picks

pub returns : goal.returns
returns c = search picks

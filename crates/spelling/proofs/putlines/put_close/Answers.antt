-- `spelling::putlines::put_close` meets its contract. Assumes nothing.
use Rattle.out.proofs.put.Room.{wrote-cons}
use Rattle.spelling.proofs.putlines.put_close.Goals as goal

pub returns : goal.returns
returns c = search wrote-cons

-- `out::put::put_byte` meets its contract. Assumes nothing.
use Rattle.out.proofs.put.Copy.{wrote_one}
use Rattle.out.proofs.put.put_byte.Goals as goal

pub returns : goal.returns
returns c = search (wrote_one)

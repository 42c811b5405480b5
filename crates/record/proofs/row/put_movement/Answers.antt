-- `put_movement`: the words, what is kept, and 2 bytes that are 0. Assumes nothing.
use Rattle.record.proofs.row.Puts.{movement-before, movement-behind, movement-unused, movement-row}
use Rattle.record.proofs.row.put_movement.Goals as goal

pub put_bytes-b-requires : goal.put_bytes-b-requires
put_bytes-b-requires c = search movement-before

pub put_bytes-c-requires : goal.put_bytes-c-requires
put_bytes-c-requires c = search movement-behind

pub put_bytes-requires : goal.put_bytes-requires
put_bytes-requires c = search movement-unused

pub returns : goal.returns
returns c = search movement-row

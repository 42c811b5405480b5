-- `put_numbers`: three numbers, each behind the one before. Assumes nothing.
use Rattle.record.proofs.file.Puts.{code-room, variable-room, numbers-put}
use Rattle.record.proofs.file.put_numbers.Goals as goal

pub put_fixed-f-requires : goal.put_fixed-f-requires
put_fixed-f-requires c = search code-room

pub put_fixed-requires : goal.put_fixed-requires
put_fixed-requires c = variable-room _ _ _ _ _
    c.put_fixed-e.ensures
    c.requires
    _ _ _
    c.put_fixed-f.ensures

pub returns : goal.returns
returns c = search numbers-put

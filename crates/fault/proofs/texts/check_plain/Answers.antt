-- `check_plain`: its length, that it holds no `|`, and its bytes. Assumes nothing.
use Rattle.fault.proofs.texts.Rules.{plains}
use Rattle.fault.proofs.texts.check_plain.Goals as goal

pub returns-then-at-f : goal.returns-then-at-f
returns-then-at-f c = search plains

pub returns-then-bytes_taken : goal.returns-then-bytes_taken
returns-then-bytes_taken c = search plains

pub returns-then-is_short : goal.returns-then-is_short
returns-then-is_short c = search plains

pub returns : goal.returns
returns c = search plains

-- `fill_file` meets its contract: the lines put so far and those of the rows that are left are the whole. Assumes nothing.
use Rattle.std.proofs.Common.{◌*◌}
use Rattle.spelling.proofs.file.Going.{Going}
use Rattle.spelling.proofs.file.fill_file.Given as goal

abbrev pub invariant-loop-i : goal.invariant-loop-i
invariant-loop-i l = Going l.sh l.texts l.rows l.initial.out l.at (l.i * 192) l.step.next l.step.due l.out

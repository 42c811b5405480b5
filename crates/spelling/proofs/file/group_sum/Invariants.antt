-- `group_sum` meets its contract: the sum so far and that of the rows that are left are the whole. Assumes nothing.
use Rattle.std.proofs.Common.{◌≡◌, ◌+◌, ◌*◌}
use Rattle.out.specs.word.Places.{rows_from}
use Rattle.spelling.specs.file.Sum.{item_sum}
use Rattle.spelling.proofs.file.group_sum.Given as goal

abbrev pub invariant-loop-i : goal.invariant-loop-i
invariant-loop-i l = item_sum (rows_from 24 l.rows l.from) ≡ l.sum + item_sum (rows_from 24 l.rows (l.from + l.i * 192))

-- `blame_line`: 3 and 15 before the line's fields, and 10 behind them. Assumes nothing.
use Rattle.found.proofs.Exits.{blamed}
use Rattle.found.proofs.blame_line.Goals as goal

pub returns-then-is_full : goal.returns-then-is_full
returns-then-is_full c = search blamed

pub returns-then-is_due : goal.returns-then-is_due
returns-then-is_due c = search blamed

pub returns : goal.returns
returns c = search blamed

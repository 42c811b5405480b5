-- `few_end` meets its contract. The loop's invariant: the first j bytes are digits of the run, and the rest of it is ahead. Assumes nothing.
use Rattle.numeral.proofs.field.Symbols.{fews}
use Rattle.numeral.proofs.field.few_end.Goals as goal

pub returns-then-worth-gt9 : goal.returns-then-worth-gt9
returns-then-worth-gt9 c = search fews

pub loop-j-preserved : goal.loop-j-preserved
loop-j-preserved c = search fews

pub returns : goal.returns
returns c = search fews

-- `check_term`: a real day, where it is judged: not past unless the sheet takes that, and not too far ahead. Assumes nothing.
use Rattle.fault.proofs.due.Days.{terms}
use Rattle.fault.proofs.due.check_term.Goals as goal

pub returns-then-early : goal.returns-then-early
returns-then-early c = search terms

pub returns-then-n-m : goal.returns-then-n-m
returns-then-n-m c = search terms

pub returns-then-ahead-n : goal.returns-then-ahead-n
returns-then-ahead-n c = search terms

pub returns-then-here : goal.returns-then-here
returns-then-here c = search terms

pub returns : goal.returns
returns c = search terms

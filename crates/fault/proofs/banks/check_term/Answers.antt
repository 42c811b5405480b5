-- `check_term`: which bank an item may be due from, where the group is a collection that is judged here. Assumes nothing.
use Rattle.fault.proofs.banks.Terms.{terms}
use Rattle.fault.proofs.banks.check_term.Goals as goal

pub returns-then-date-today : goal.returns-then-date-today
returns-then-date-today c = search terms

pub returns-then-bank-own : goal.returns-then-bank-own
returns-then-bank-own c = search terms

pub returns-then-date-today-2 : goal.returns-then-date-today-2
returns-then-date-today-2 c = search terms

pub returns-then-here : goal.returns-then-here
returns-then-here c = search terms

pub returns : goal.returns
returns c = search terms

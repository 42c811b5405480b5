-- `due_warnings` counts a past day once, on a sheet that warns of it.
use borrow.Author.Rules.{rules}
use Rattle.calendar.proofs.Due.{dues}
use Rattle.calendar.proofs.due_warnings.Goals as goal

pub returns-then-today-d : goal.returns-then-today-d
returns-then-today-d c = record { value = search dues; upper_bound = search rules }

pub returns-then-here : goal.returns-then-here
returns-then-here c = record { value = search dues; upper_bound = search rules }

pub returns-else-here : goal.returns-else-here
returns-else-here c = record { value = search dues; upper_bound = search rules }

pub returns-else-warns : goal.returns-else-warns
returns-else-warns c = record { value = search dues; upper_bound = search rules }

-- `load` meets its contract: the tests in the order of the definition. Bytes that fail one of the last two are told as malformed together. Assumes nothing.
use borrow.Author.Rules.{rules}
use Rattle.register.proofs.Exits.{loads}
use Rattle.register.proofs.load.Goals as goal
use Rattle.register.proofs.load.Goals.{then-real_day+else-none_above, else-real_day}

pub returns-then-lent-lt136-clause-result_value : goal.returns-then-lent-lt136-clause-result_value
returns-then-lent-lt136-clause-result_value c = search (loads, rules)

pub returns-then-none_above-clause-result_value : goal.returns-then-none_above-clause-result_value
returns-then-none_above-clause-result_value c = search (loads, rules)

pub returns-then-none_above-clause-sound : goal.returns-then-none_above-clause-sound
returns-then-none_above-clause-sound c = search (loads, rules)

pub returns-clause-result_value : goal.returns-clause-result_value
returns-clause-result_value c = elim c.if-real_day.branch [ then-real_day+else-none_above w ↦ search (loads, rules) | else-real_day w ↦ search (loads, rules) ]

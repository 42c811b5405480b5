-- `give_back` meets its contract: a way out for each answer, and only the first changes the bytes. Assumes nothing.
use borrow.Author.Rules.{rules}
use Rattle.register.proofs.Exits.{gives}
use Rattle.register.proofs.give_back.Goals.{then-n-lt1000+else-has, else-n-lt1000}
use Rattle.register.proofs.give_back.Goals as goal

pub store-requires : goal.store-requires
store-requires c = search (gives, rules)

pub returns-then-has-clause-result_value : goal.returns-then-has-clause-result_value
returns-then-has-clause-result_value c = rw c.said.ensures (search gives)

pub returns-then-has-clause-lent_after : goal.returns-then-has-clause-lent_after
returns-then-has-clause-lent_after c = search gives

pub returns-then-r-clause-result_value : goal.returns-then-r-clause-result_value
returns-then-r-clause-result_value c = rw c.refused.ensures (elim c.if-n-lt1000.branch [ then-n-lt1000+else-has w ↦ search gives | else-n-lt1000 w ↦ search gives ])

pub returns-then-r-clause-lent_after : goal.returns-then-r-clause-lent_after
returns-then-r-clause-lent_after c = elim c.if-n-lt1000.branch [ then-n-lt1000+else-has w ↦ search gives | else-n-lt1000 w ↦ search gives ]

pub returns-clause-result_value : goal.returns-clause-result_value
returns-clause-result_value c = rw c.refused-2.ensures (search gives)

pub returns-clause-lent_after : goal.returns-clause-lent_after
returns-clause-lent_after c = search gives

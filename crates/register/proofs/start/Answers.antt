-- `start` meets its contract: the tests in the order of the definition. Assumes nothing.
use Rattle.base.proofs.Cases.{picks}
use Rattle.register.specs.Register.{start_answer, start_after}
use Rattle.register.proofs.Exits.{start-bytes}
use borrow.Author.Rules.{rules}
use Rattle.register.proofs.start.Goals as goal

pub returns-then-lent-lt136-clause-result_value : goal.returns-then-lent-lt136-clause-result_value
unfolding start_answer
returns-then-lent-lt136-clause-result_value c = rw c.refused.ensures (search (picks, rules))

pub returns-then-lent-lt136-clause-lent_after : goal.returns-then-lent-lt136-clause-lent_after
unfolding start_after
returns-then-lent-lt136-clause-lent_after c = search (picks, rules)

pub returns-then-real_day-clause-result_value : goal.returns-then-real_day-clause-result_value
unfolding start_answer
returns-then-real_day-clause-result_value c = rw c.said.ensures (search (picks, rules))

pub returns-then-real_day-clause-lent_after : goal.returns-then-real_day-clause-lent_after
returns-then-real_day-clause-lent_after c = search (start-bytes, rules)

pub returns-clause-result_value : goal.returns-clause-result_value
unfolding start_answer
returns-clause-result_value c = rw c.refused-2.ensures (search (picks, rules))

pub returns-clause-lent_after : goal.returns-clause-lent_after
unfolding start_after
returns-clause-lent_after c = search (picks, rules)

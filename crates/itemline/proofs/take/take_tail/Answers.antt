-- `take_tail` meets its contract. Assumes nothing.
use borrow.Author.Rules.{rules}
use Rattle.itemline.proofs.take.Tails.{tails}
use Rattle.itemline.proofs.take.take_tail.Goals as goal

pub returns-then-s-at-clause-x_value : goal.returns-then-s-at-clause-x_value
returns-then-s-at-clause-x_value c = search tails

pub returns-then-s-end-clause-x_value : goal.returns-then-s-end-clause-x_value
returns-then-s-end-clause-x_value c = search tails

pub returns-then-s-end-eq32-clause-x_value : goal.returns-then-s-end-eq32-clause-x_value
returns-then-s-end-eq32-clause-x_value c = search tails

pub returns-then-from-end-clause-x_value : goal.returns-then-from-end-clause-x_value
returns-then-from-end-clause-x_value c = search tails

pub returns-then-fixed-clause-x_value : goal.returns-then-fixed-clause-x_value
returns-then-fixed-clause-x_value c = search tails

pub returns-then-fixed-clause-inside : goal.returns-then-fixed-clause-inside
returns-then-fixed-clause-inside c = search (tails, rules)

pub returns-clause-x_value : goal.returns-clause-x_value
returns-clause-x_value c = search tails

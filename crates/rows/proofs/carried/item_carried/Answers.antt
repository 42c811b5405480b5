-- `item_carried` meets its contract: the amount's test, the priority's, then the texts. Assumes nothing.
use Rattle.rows.proofs.carried.Steps.{amount-limit, steps}
use Rattle.paper.specs.Carried.{item_carried}
use Rattle.rows.proofs.carried.item_carried.Goals as goal

pub returns-then-not-small : goal.returns-then-not-small
unfolding item_carried
returns-then-not-small c = λ k rest. search (steps, amount-limit) depth 12

pub returns-then-not-carried : goal.returns-then-not-carried
unfolding item_carried
returns-then-not-carried c = λ k rest. search (steps, amount-limit) depth 12

pub returns : goal.returns
unfolding item_carried
returns c = λ k rest. search (steps, amount-limit, c.texts_carried.ensures) depth 12

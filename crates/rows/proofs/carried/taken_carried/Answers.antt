-- `taken_carried` meets its contract: the tests in their order. Assumes nothing.
use Rattle.rows.proofs.carried.Steps.{steps}
use Rattle.paper.specs.Carried.{parts_carried_from}
use Rattle.rows.proofs.carried.taken_carried.Goals as goal

pub returns-then-not-first : goal.returns-then-not-first
unfolding parts_carried_from
returns-then-not-first c = λ k rest. search steps depth 12

pub returns-then-not-second : goal.returns-then-not-second
unfolding parts_carried_from
returns-then-not-second c = λ k rest. search steps depth 12

pub returns-then-not-third : goal.returns-then-not-third
unfolding parts_carried_from
returns-then-not-third c = λ k rest. search steps depth 12

pub returns-then-not-fourth : goal.returns-then-not-fourth
unfolding parts_carried_from
returns-then-not-fourth c = λ k rest. search steps depth 12

pub returns-then-not-named : goal.returns-then-not-named
unfolding parts_carried_from
returns-then-not-named c = λ k rest. search steps depth 12

pub returns : goal.returns
unfolding parts_carried_from
returns c = λ k rest. search steps depth 12

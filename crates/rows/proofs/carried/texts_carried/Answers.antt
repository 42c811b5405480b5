-- `carried::texts_carried` meets its contract: all parts are taken, or each is looked at. Assumes nothing.
use borrow.Author.Rules.{rules}
use Rattle.rows.proofs.carried.Steps.{takes}
use Rattle.rows.proofs.carried.texts_carried.Goals as goal
use Rattle.rows.proofs.carried.texts_carried.Goals.{then-clean+else-not-parts_clean, else-clean}

pub taken_carried-requires : goal.taken_carried-requires
taken_carried-requires c = record { inside = search rules; taken = elim c.if-clean.branch [ then-clean+else-not-parts_clean w ↦ search takes | else-clean w ↦ search takes ] }

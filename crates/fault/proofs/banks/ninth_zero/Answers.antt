-- `ninth_zero`: whether the ninth digit from the right is as it must be: 0, but on K (`ranked`) any. Assumes nothing.
use Rattle.base.proofs.Cases.{picks}
use Rattle.fault.proofs.banks.ninth_zero.Goals as goal

pub returns-then-ranked : goal.returns-then-ranked
returns-then-ranked c = search picks

pub returns : goal.returns
returns c = search picks

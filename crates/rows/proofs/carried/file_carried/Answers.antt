-- `file_carried` meets its contract: the kind's test, then the number's. Assumes nothing.
use Rattle.rows.proofs.carried.Steps.{steps}
use Rattle.rows.proofs.carried.file_carried.Goals as goal

pub returns-then-not-known : goal.returns-then-not-known
returns-then-not-known c = λ h l f t holds k rest. search steps depth 12

pub returns-in-None : goal.returns-in-None
returns-in-None c = λ h l f t holds k rest. search steps depth 12

pub returns-in-Some : goal.returns-in-Some
returns-in-Some c = λ h l f t holds k rest. search steps depth 12

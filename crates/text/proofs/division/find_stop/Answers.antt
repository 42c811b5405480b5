-- `find_stop` meets its contract: each turn passes a byte that ends no part. Assumes nothing.
use Rattle.std.proofs.Common.{rules}
use Rattle.text.proofs.division.Turns.{halves}
use Rattle.text.proofs.division.find_stop.Goals as goal
use Rattle.text.proofs.division.find_stop.Goals.{in-124, in_default}

pub loop-i-init : goal.loop-i-init
loop-i-init c = search halves

pub loop-i-preserved : goal.loop-i-preserved
loop-i-preserved c =
    elim c.match-matches.branch [
      | in-124 w ↦ (cc)
      | in_default w ↦ search (halves, rules)
    ]

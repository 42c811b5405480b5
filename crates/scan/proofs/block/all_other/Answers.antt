-- `all_other` meets its contract: while the answer is true, every byte passed is of the kind. Assumes nothing.
use mathlib.Core.Path.{refl}
use Rattle.base.specs.Seek.{all}
use Prim.Native.Nat.{◌+◌}
use native.Mathlib.Omega.{arith}
use Rattle.scan.proofs.block.Turns.{pass-not, pass-more, pass-end, is-other}
use Rattle.scan.specs.block.Blocks.{is_other}
use Rattle.scan.proofs.block.all_other.Goals as goal
use Rattle.scan.proofs.block.all_other.Goals.{then-s-at, else-s-at}

pub loop-j-init : goal.loop-j-init
unfolding all
loop-j-init c = λ e. refl

pub loop-j-preserved : goal.loop-j-preserved
loop-j-preserved c = let s = c.args.s.now in
    let at = c.args.at in
    let b = c.args.b in
    let j = c.loop-j.j in
    elim c.if-s-at.branch [
      | then-s-at w ↦ pass-not (is_other b) s at (j + 1) _ w.other-is
      | else-s-at w ↦ pass-more (is_other b) s at j _ _ w.other-is (omega arith) c.loop-j.invariant (is-other b _ w.if-s-at.false)
    ]

pub returns : goal.returns
returns c = search pass-end

-- `high_block` meets its contract: while the answer is true, every byte passed is of the kind. Assumes nothing.
use mathlib.Core.Path.{refl}
use Rattle.base.specs.Seek.{all}
use Prim.Native.Nat.{◌+◌}
use native.Mathlib.Omega.{arith}
use Rattle.scan.proofs.block.Turns.{pass-not, pass-more, pass-end, is-high}
use Rattle.scan.specs.block.Blocks.{is_high}
use Rattle.scan.proofs.block.high_block.Goals as goal
use Rattle.scan.proofs.block.high_block.Goals.{then-s-at-lt14, else-s-at-lt14}

pub loop-j-init : goal.loop-j-init
unfolding all
loop-j-init c = λ e. refl

pub loop-j-preserved : goal.loop-j-preserved
loop-j-preserved c = let s = c.args.s.now in
    let at = c.args.at in
    let j = c.loop-j.j in
    elim c.if-s-at-lt14.branch [
      | then-s-at-lt14 w ↦ pass-not is_high s at (j + 1) _ w.high-is
      | else-s-at-lt14 w ↦ pass-more is_high s at j _ _ w.high-is (omega arith) c.loop-j.invariant (is-high _ w.if-s-at-lt14.false)
    ]

pub returns : goal.returns
returns c = search pass-end

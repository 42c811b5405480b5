-- `text_block` meets its contract: while the answer is true, every byte passed is of the kind. Assumes nothing.
use mathlib.Core.Path.{refl, ◌∙◌}
use Rattle.base.specs.Seek.{all}
use Prim.Native.Nat.{◌+◌, ◌<◌}
use lib.ListN.{get_or}
use native.Mathlib.Omega.{arith}
use Rattle.scan.proofs.block.Turns.{pass-not, pass-more, pass-end, is-text}
use Rattle.paper.specs.Bytes.{is_text}
use Rattle.scan.proofs.block.text_block.Goals as goal
use Rattle.scan.proofs.block.text_block.Goals.{then-b-lt32, else-b-lt32, then-b-eq127, else-b-eq127}

pub loop-j-init : goal.loop-j-init
unfolding all
loop-j-init c = λ e. refl

pub loop-j-preserved : goal.loop-j-preserved
loop-j-preserved c = let s = c.args.s.now in
    let at = c.args.at in
    let j = c.loop-j.j in
    let inv = c.loop-j.invariant in
    let byte : get_or s (at + j) 0 < 256 = omega (arith, c.type_inv.s (at + j)) in
    elim c.if-b-eq127.branch [
      | then-b-eq127 w ↦ pass-not is_text s at (j + 1) _ w.text-is
      | else-b-eq127 w ↦ elim c.if-b-lt32.branch [
        | then-b-lt32 v ↦ pass-not is_text s at (j + 1) _ (w.text-is ∙ v.text-is)
        | else-b-lt32 v ↦ pass-more is_text s at j _ _ (w.text-is ∙ v.text-is) (omega arith) inv (is-text _ v.if-b-lt32.false w.if-b-eq127.false byte)
      ]
    ]

pub returns : goal.returns
returns c = search pass-end

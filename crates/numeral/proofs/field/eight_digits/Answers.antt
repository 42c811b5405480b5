-- `eight_digits` meets its contract: while the answer is true, every byte passed is a digit. Assumes nothing.
use Rattle.std.proofs.Common.{refl, arith}
use Rattle.base.specs.Seek.{all}
use Rattle.numeral.proofs.field.Symbols.{eight-other, eight-digit}
use Rattle.numeral.proofs.field.eight_digits.Goals as goal
use Rattle.numeral.proofs.field.eight_digits.Goals.{then-worth-gt9, else-worth-gt9}

pub loop-j-init : goal.loop-j-init
unfolding all
loop-j-init c = refl

pub loop-j-preserved : goal.loop-j-preserved
loop-j-preserved c = let s = c.args.s.now in
    let at = c.args.at in
    let j = c.loop-j.j in
    let inv = c.loop-j.invariant in
    let w = c.worth.ensures in
    elim c.if-worth-gt9.branch [
      | then-worth-gt9 v ↦ eight-other s at j _ _ (omega arith) inv _ w v.if-worth-gt9.true v.digits-is
      | else-worth-gt9 v ↦ eight-digit s at j _ _ (omega arith) inv _ w v.if-worth-gt9.false v.digits-is
    ]

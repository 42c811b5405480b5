-- `is_plain` tests whether a byte stands for itself.
use Rattle.sentences.specs.Quoted.{is_plain, hex_digit}
use Rattle.base.proofs.Cases.{picks}
use Rattle.sentences.proofs.quoted.is_plain.Goals as goal

pub returns-then-x-lt32 : goal.returns-then-x-lt32
unfolding is_plain hex_digit
returns-then-x-lt32 c = search picks depth 8

pub returns-then-x-gt126 : goal.returns-then-x-gt126
unfolding is_plain hex_digit
returns-then-x-gt126 c = search picks depth 8

pub returns-then-x-eq34 : goal.returns-then-x-eq34
unfolding is_plain hex_digit
returns-then-x-eq34 c = search picks depth 8

pub returns-then-x-eq92 : goal.returns-then-x-eq92
unfolding is_plain hex_digit
returns-then-x-eq92 c = search picks depth 8

pub returns : goal.returns
unfolding is_plain hex_digit
returns c = search picks depth 8

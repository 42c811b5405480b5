-- `hex_digit` is the last digit of sixteen.
use Rattle.sentences.specs.Quoted.{is_plain, hex_digit}
use Rattle.base.proofs.Cases.{picks}
use Rattle.sentences.proofs.quoted.hex_digit.Goals as goal

pub returns-then-h-lt10 : goal.returns-then-h-lt10
unfolding is_plain hex_digit
returns-then-h-lt10 c = search picks depth 8

pub returns : goal.returns
unfolding is_plain hex_digit
returns c = search picks depth 8

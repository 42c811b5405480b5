-- `plain_bank` meets its contract: the tests of a plain bank field. Assumes nothing.
use Rattle.bank.proofs.at.Plain.{not_plain, is-plain}
use Rattle.bank.proofs.at.plain_bank.Goals as goal

pub returns-then-s-at-lt8 : goal.returns-then-s-at-lt8
returns-then-s-at-lt8 c = search (not_plain, is-plain)

pub returns-then-four_zeros : goal.returns-then-four_zeros
returns-then-four_zeros c = search (not_plain, is-plain)

pub returns-then-ends : goal.returns-then-ends
returns-then-ends c = search (not_plain, is-plain)

pub returns : goal.returns
returns c = search (not_plain, is-plain)

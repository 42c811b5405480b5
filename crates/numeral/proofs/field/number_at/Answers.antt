-- `number_at` meets its contract: the run of digits is the field, or the field is refused. Assumes nothing.
use Rattle.std.proofs.Common.{rules}
use Rattle.numeral.proofs.field.Number.{numbers}
use Rattle.numeral.proofs.field.number_at.Goals as goal

pub ends-requires : goal.ends-requires
ends-requires c = search (numbers, rules)

pub returns-then-end-at : goal.returns-then-end-at
returns-then-end-at c = search numbers

pub returns-then-ends : goal.returns-then-ends
returns-then-ends c = search numbers

pub returns : goal.returns
returns c = search numbers

-- `pass_symbol` meets its contract: the run of digits is the field, or the field is refused. Assumes nothing.
use Rattle.std.proofs.Common.{rules}
use Rattle.numeral.proofs.field.Symbols.{symbols}
use Rattle.numeral.proofs.field.pass_symbol.Goals as goal

pub ends-requires : goal.ends-requires
ends-requires c = search (symbols, rules)

pub returns-then-end-at : goal.returns-then-end-at
returns-then-end-at c = search symbols

pub returns-then-ends : goal.returns-then-ends
returns-then-ends c = search symbols

pub returns : goal.returns
returns c = search symbols

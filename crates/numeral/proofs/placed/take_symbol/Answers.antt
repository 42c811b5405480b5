-- `take_symbol` meets its contract. Assumes nothing.
use Rattle.std.proofs.Common.{rules}
use Rattle.numeral.proofs.placed.Symbols.{symbols}
use Rattle.numeral.proofs.placed.take_symbol.Goals as goal

pub take_run-requires : goal.take_run-requires
take_run-requires c = search (symbols, rules)

pub returns : goal.returns
returns c = search (symbols)

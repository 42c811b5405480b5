-- `check_symbol`: a symbol: 1 to 10 digits, on S (`none`) also nothing. Assumes nothing.
use Rattle.fault.proofs.field.Rulings.{symbols}
use Rattle.fault.proofs.field.check_symbol.Goals as goal

pub returns-then-f-eq0 : goal.returns-then-f-eq0
returns-then-f-eq0 c = search symbols

pub returns-then-none : goal.returns-then-none
returns-then-none c = search symbols

pub returns : goal.returns
returns c = search symbols

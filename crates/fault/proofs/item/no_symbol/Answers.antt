-- `no_symbol`: whether what stands at `at` is no symbol, where a text may stand for it (`bare`). Assumes nothing.
use borrow.Author.Rules.{rules}
use Rattle.fault.proofs.line.Steps.{steps}
use Rattle.fault.proofs.item.Onward.{bares}
use Rattle.fault.proofs.item.no_symbol.Goals as goal

pub slice_bounds-check_digits-end : goal.slice_bounds-check_digits-end
slice_bounds-check_digits-end c = search (bares, steps, rules)

pub returns-then-bare : goal.returns-then-bare
returns-then-bare c = search (bares, steps)

pub returns : goal.returns
returns c = search (bares, steps)

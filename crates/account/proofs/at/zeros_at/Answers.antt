-- `zeros_at` meets its contract: zeros that stand for nobody, or the refusal. Assumes nothing.
use borrow.Author.Rules.{rules}
use Rattle.scan.proofs.line.Fields.{end-within}
use Rattle.account.proofs.at.Payers.{payers}
use Rattle.account.proofs.at.zeros_at.Goals as goal

pub returns-then-only_zeros : goal.returns-then-only_zeros
returns-then-only_zeros c = search payers

pub returns : goal.returns
returns c = search payers

pub slice_bounds-only_zeros-end : goal.slice_bounds-only_zeros-end
slice_bounds-only_zeros-end c = search (end-within, rules)

-- `text::extent::name_len` meets its contract. Assumes nothing.
use borrow.Author.Rules.{rules}
use Rattle.text.proofs.extent.Lengths.{names}
use Rattle.text.proofs.extent.name_len.Goals as goal

pub returns-then-n-eq0 : goal.returns-then-n-eq0
returns-then-n-eq0 c = search (names, rules)

pub returns : goal.returns
returns c = search (names, rules)

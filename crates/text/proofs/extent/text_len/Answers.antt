-- `text::extent::text_len` meets its contract. Assumes nothing.
use borrow.Author.Rules.{rules}
use Rattle.text.proofs.extent.Lengths.{longs}
use Rattle.text.proofs.extent.text_len.Goals as goal

pub returns-then-alone : goal.returns-then-alone
returns-then-alone c = search (longs, rules)

pub returns-then-av : goal.returns-then-av
returns-then-av c = search (longs, rules)

pub returns : goal.returns
returns c = search (longs, rules)

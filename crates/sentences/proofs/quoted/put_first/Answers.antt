-- `put_first` puts the first 60 bytes.
use borrow.Author.Rules.{rules}
use Rattle.sentences.proofs.quoted.Quoting.{each}
use Rattle.sentences.proofs.quoted.put_first.Goals as goal

pub slice_bounds-put_each-end : goal.slice_bounds-put_each-end
slice_bounds-put_each-end c = search (each, rules)

pub returns : goal.returns
returns c = search each

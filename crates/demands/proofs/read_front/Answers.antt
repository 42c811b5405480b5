-- `read_front` reads the first bytes as a file.
use borrow.Author.Rules.{rules}
use Rattle.demands.proofs.Round.{front-counted}
use Rattle.demands.proofs.read_front.Goals as goal

pub slice_bounds-abo_read-end : goal.slice_bounds-abo_read-end
slice_bounds-abo_read-end c = search (front-counted, rules)

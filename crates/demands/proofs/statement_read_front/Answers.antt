-- `statement_read_front` reads the first bytes as statements. Assumes nothing.
use borrow.Author.Rules.{rules}
use Rattle.demands.proofs.Round.{front-counted}
use Rattle.demands.proofs.statement_read_front.Goals as goal

pub slice_bounds-abo_statement_read-end : goal.slice_bounds-abo_statement_read-end
slice_bounds-abo_statement_read-end c = search (front-counted, rules)

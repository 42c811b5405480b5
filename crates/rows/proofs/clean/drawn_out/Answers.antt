-- `clean::drawn_out` meets its contract. Assumes nothing.
use borrow.Author.Rules.{rules}
use Rattle.rows.proofs.clean.Laws.{drawn}
use Rattle.rows.proofs.clean.drawn_out.Goals as goal

pub returns : goal.returns
returns c = record { from_le_to_2 = search (drawn, rules); to_in_bounds_2 = search (c.higher.ensures.by_index, rules); reaches = search (drawn, rules); lies = search (drawn, rules) }

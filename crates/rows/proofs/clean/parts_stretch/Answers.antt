-- `clean::parts_stretch` meets its contract. Assumes nothing.
use borrow.Author.Rules.{rules}
use Rattle.rows.proofs.clean.Laws.{all_lie}
use Rattle.rows.proofs.clean.parts_stretch.Goals as goal

pub returns : goal.returns
returns c = search (all_lie, rules)

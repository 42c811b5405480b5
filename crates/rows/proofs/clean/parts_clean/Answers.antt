-- `clean::parts_clean` meets its contract: no part has bytes, or all of the stretch is clean. Assumes nothing.
use borrow.Author.Rules.{rules}
use Rattle.rows.proofs.clean.Laws.{stretch-clean, none-clean, untold}
use Rattle.rows.proofs.clean.parts_clean.Goals as goal

pub returns-then-from-to : goal.returns-then-from-to
returns-then-from-to c = search none-clean

pub returns-then-to-from-gt160 : goal.returns-then-to-from-gt160
returns-then-to-from-gt160 c = search untold

pub returns : goal.returns
returns c = search (stretch-clean, rules)

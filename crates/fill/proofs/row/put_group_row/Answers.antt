-- The words are those of the definition.
use borrow.Author.Rules.{rules}
use Rattle.paper.specs.Words.{blanks}
use Rattle.paper.specs.Rows.{group_row}
use Rattle.fill.proofs.row.put_group_row.Goals as goal

pub returns : goal.returns
unfolding group_row blanks
returns c = search rules

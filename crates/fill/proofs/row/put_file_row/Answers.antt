-- The words are those of the definition.
use borrow.Author.Rules.{rules}
use Rattle.paper.specs.Words.{blanks}
use Rattle.paper.specs.Rows.{file_row}
use Rattle.fill.proofs.row.put_file_row.Goals as goal

pub returns : goal.returns
unfolding file_row blanks
returns c = search rules

-- The canonical file of a batch with a header. Document 01, "Canonical spelling". Assumes nothing.
use Rattle.std.specs.Prelude.{ℕ, List, [], ◌∷◌, ◌++◌}
use Rattle.sheet.specs.declared.Sheet.{Sheet}
use Rattle.paper.specs.Batch.{Batch, Header}
use Rattle.paper.specs.Entries.{Entry, head, file, group, item, close_group, close_file}
use Rattle.paper.specs.FirstLine.{spell_first}
use Rattle.paper.specs.FileLine.{spell_file}
use Rattle.paper.specs.GroupLine.{spell_group}
use Rattle.paper.specs.ItemLine.{spell_item}
use Rattle.paper.specs.ClosingLine.{spell_close}
use Rattle.paper.specs.Spells.{Due, dues}

-- "Canonical spelling": each kind of line as its own file of definitions spells it
unfoldable pub spell : Sheet → Entry → List ℕ
spell sh (head h) = spell_first sh h
spell sh (file kind number) = spell_file sh kind number
spell sh (group payer total date) = spell_group sh payer total date
spell sh (item x) = spell_item sh x
spell sh close_group = spell_close 51
spell sh close_file = spell_close 53

-- CR LF after every line
unfoldable pub text_of : Sheet → List Due → List ℕ
text_of sh [] = []
text_of sh (d ∷ ds) = spell sh d.entry ++ (13 ∷ 10 ∷ text_of sh ds)

-- the first line, then account files, groups and items with their closing lines
unfoldable pub canon : Sheet → Header → Batch → List ℕ
canon sh h b = text_of sh (dues h b)

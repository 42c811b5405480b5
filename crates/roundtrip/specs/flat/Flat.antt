-- The canonical file of a batch, row by row as the rows come. Document 01, "Canonical spelling". Assumes nothing.
use Rattle.std.specs.Prelude.{ℕ, ◌+◌, List, [], ◌∷◌, ◌++◌}
use Rattle.sheet.specs.declared.Sheet.{Sheet}
use Rattle.paper.specs.Batch.{Thing, a_file, a_group, an_item, misnumbered, strange}
use Rattle.paper.specs.Proper.{Stage, need_file, need_group, need_item, any}
use Rattle.paper.specs.FileLine.{spell_file}
use Rattle.paper.specs.GroupLine.{spell_group}
use Rattle.paper.specs.ItemLine.{spell_item}
use Rattle.paper.specs.ClosingLine.{spell_close}

-- CR LF after every line
abbrev pub line_of : List ℕ → List ℕ
line_of s = s ++ (13 ∷ 10 ∷ [])

-- before a group: the line that closes the group before it. A group is open behind an item, which is where any row may come.
unfoldable pub group_ends : Stage → List ℕ
group_ends need_file = []
group_ends need_group = []
group_ends need_item = []
group_ends any = line_of (spell_close 51)

-- before an account file, and at the end: the lines that close the group and the account file before it
unfoldable pub file_ends : Stage → List ℕ
file_ends need_file = []
file_ends need_group = []
file_ends need_item = []
file_ends any = line_of (spell_close 51) ++ line_of (spell_close 53)

-- the amounts of the items that the rows begin with: behind a group's row, its total
unfoldable pub group_sum : List Thing → ℕ
group_sum [] = 0
group_sum (a_file kind number ∷ ts) = 0
group_sum (a_group date payer ∷ ts) = 0
group_sum (an_item x ∷ ts) = x.amount + group_sum ts
group_sum (misnumbered x ∷ ts) = group_sum ts
group_sum (strange ∷ ts) = group_sum ts

-- the lines of the rows that are left, where the rows before make the stage
unfoldable pub flat : Sheet → Stage → List Thing → List ℕ
flat sh st [] = file_ends st
flat sh st (a_file kind number ∷ ts) = file_ends st ++ (line_of (spell_file sh kind number) ++ flat sh need_group ts)
flat sh st (a_group date payer ∷ ts) = group_ends st ++ (line_of (spell_group sh payer (group_sum ts) date) ++ flat sh need_item ts)
flat sh st (an_item x ∷ ts) = line_of (spell_item sh x) ++ flat sh any ts
flat sh st (misnumbered x ∷ ts) = flat sh st ts
flat sh st (strange ∷ ts) = flat sh st ts

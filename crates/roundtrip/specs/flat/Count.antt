-- How long the canonical file is, counted row by row. A group's total is known when the group ends, and its digits are counted there.
-- Assumes nothing.
use Rattle.std.specs.Prelude.{ℕ, ◌+◌, List, [], ◌∷◌, ◌++◌, length}
use Rattle.sheet.specs.declared.Sheet.{Sheet}
use Rattle.paper.specs.Numerals.{decimal}
use Rattle.paper.specs.Days.{spell_day}
use Rattle.paper.specs.Accounts.{Account}
use Rattle.paper.specs.GroupLine.{spell_payer}
use Rattle.paper.specs.FileLine.{spell_file}
use Rattle.paper.specs.ItemLine.{spell_item}
use Rattle.paper.specs.Batch.{Thing, a_file, a_group, an_item, misnumbered, strange}
use Rattle.paper.specs.Proper.{Stage, need_file, need_group, need_item, any}

-- how long a group's line is without its total
unfoldable pub group_front : Sheet → Account → ℕ → ℕ
group_front sh payer date = length (50 ∷ 32 ∷ (spell_payer sh.emptypayer payer ++ (32 ∷ spell_day date)))

-- where a group is open, its total's digits are still to be counted
unfoldable pub owed : Stage → ℕ → ℕ
owed need_file sum = 0
owed need_group sum = 0
owed need_item sum = length (decimal sum)
owed any sum = length (decimal sum)

-- before a group: the total of the group before it, and the five bytes that close it
unfoldable pub group_closing : Stage → ℕ → ℕ
group_closing need_file sum = 0
group_closing need_group sum = 0
group_closing need_item sum = length (decimal sum)
group_closing any sum = length (decimal sum) + 5

-- before an account file, and at the end: the same, and the five bytes that close the account file
unfoldable pub file_closing : Stage → ℕ → ℕ
file_closing need_file sum = 0
file_closing need_group sum = 0
file_closing need_item sum = length (decimal sum)
file_closing any sum = length (decimal sum) + 10

-- the bytes that the rows that are left add, CR LF included; `sum` is that of the open group's items so far
unfoldable pub count : Sheet → Stage → ℕ → List Thing → ℕ
count sh st sum [] = file_closing st sum
count sh st sum (a_file kind number ∷ ts) = file_closing st sum + (length (spell_file sh kind number) + 2) + count sh need_group 0 ts
count sh st sum (a_group date payer ∷ ts) = group_closing st sum + (group_front sh payer date + 2) + count sh need_item 0 ts
count sh st sum (an_item x ∷ ts) = (length (spell_item sh x) + 2) + count sh any (sum + x.amount) ts
count sh st sum (misnumbered x ∷ ts) = count sh st sum ts
count sh st sum (strange ∷ ts) = count sh st sum ts

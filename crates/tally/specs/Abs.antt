-- What a state of the judge comes to in numbers. Assumes nothing.
use Rattle.std.specs.Prelude.{ℕ, ◌+◌, List, [], ◌∷◌, length}
use Rattle.paper.specs.Accounts.{is_nobody}
use Rattle.paper.specs.Batch.{Item, Group, AccountFile, Header, sum}
use Rattle.paper.specs.FileLine.{series}
use Rattle.paper.specs.Spells.{group_items, file_items}
use Rattle.paper.specs.Judge.{FileHead, GroupHead, State, at_first, at_file, at_group, at_item, stop, seen}
use Rattle.tally.specs.Tally.{brief, Book, Shelf, Open, Tally, t_first, t_file, t_group, t_item, t_stop}

-- rows of groups and of account files: one for each of them, for each group and for each item
unfoldable pub group_rows : List Group → ℕ
group_rows [] = 0
group_rows (g ∷ gs) = 1 + length g.items + group_rows gs

unfoldable pub file_rows : List AccountFile → ℕ
file_rows [] = 0
file_rows (f ∷ fs) = 1 + group_rows f.groups + file_rows fs

-- the closed account files
abbrev pub closed_book : Header → List AccountFile → ℕ → Book
closed_book h fs w = record { head = h; seen = seen fs; files = length fs; items = file_items fs; rows = file_rows fs; warnings = w }

-- .. with an open one, which has i items and r rows below its own
abbrev pub open_book : Header → List AccountFile → FileHead → ℕ → ℕ → ℕ → Book
open_book h fs f i r w =
    record {
      head = h;
      seen = series f.number ∷ seen fs;
      files = length fs + 1;
      items = i + file_items fs;
      rows = file_rows fs + 1 + r;
      warnings = w;
    }

-- .. and its closed groups
abbrev pub open_shelf : FileHead → ℕ → List Group → Shelf
open_shelf f i gs = record { kind = f.kind; items = i; groups = length gs }

-- the open group
abbrev pub open_group : GroupHead → List Item → Open
open_group g xs =
    record { single = is_nobody g.payer; date = g.date; total = g.total; line = g.line; byte = g.byte; sum = sum xs; count = length xs }

unfoldable pub abs : State → Tally
abs at_first = t_first
abs (at_file x) = t_file (closed_book x.header x.files x.warnings)
abs (at_group x) =
    t_group
    (open_book x.header x.files x.opening (group_items x.groups) (group_rows x.groups) x.warnings)
    (open_shelf x.opening (group_items x.groups) x.groups)
abs (at_item x) =
    t_item
    (open_book x.header x.files x.opening (length x.items + group_items x.groups) (group_rows x.groups + 1 + length x.items) x.warnings)
    (open_shelf x.opening (length x.items + group_items x.groups) x.groups)
    (open_group x.head x.items)
abs (stop a) = t_stop (brief a)

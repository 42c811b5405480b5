-- The judged answer of any file: the batch, or the first broken rule in the testing order. Document 01, "Numbers returned". Assumes nothing.
use Rattle.std.specs.Prelude.{ℕ, suc, ◌+◌, Bool, true, false, List, [], ◌∷◌, eqb, ltb, leb, length}
use Rattle.base.specs.Pick.{pick}
use Rattle.sheet.specs.declared.Sheet.{Sheet}
use Rattle.paper.specs.Bytes.{null}
use Rattle.paper.specs.Accounts.{Account, is_nobody}
use Rattle.paper.specs.Batch.{Item, Group, AccountFile, Batch, Header, sum, most14}
use Rattle.paper.specs.Lines.{Line, lines_of}
use Rattle.paper.specs.Entries.{on_head, on_file, on_group, on_item, Saying, Counted, got, no, counted, Kind, head_line, file_line, group_line, item_line, group_end, file_end, kind_of}
use Rattle.paper.specs.FileLine.{series}
use Rattle.paper.specs.Spells.{Context, for_head, for_file, for_group, for_item, read_as, differs, group_items, file_items}

-- number, line and byte; or header, batch and count of warnings
pub data Answer : Type 0 where
  Refused : ℕ → ℕ → ℕ → Answer
  Accepted : Header → Batch → ℕ → Answer

-- the elements of the first list, last one first, in front of the second
abbrev pub rev_on : {A : Type 0} → List A → List A → List A
rev_on [] m = m
rev_on (x ∷ a) m = rev_on a (x ∷ m)

-- ---- what is due after some lines, with the batch so far (lists are kept last one first) and the warnings so far

-- the line that opened an account file: its kind and number
pub record FileHead : Type 0 where
  pub kind : ℕ
  pub number : ℕ

-- the line that opened a group: payer, due date, and the total with its line and byte
pub record GroupHead : Type 0 where
  pub payer : Account
  pub date : ℕ
  pub total : ℕ
  pub line : ℕ
  pub byte : ℕ

-- between account files: the header, the account files that are closed, and the warnings
pub record Between : Type 0 where
  pub header : Header
  pub files : List AccountFile
  pub warnings : ℕ

-- inside an account file: besides, the line that opened it, and its groups that are closed
pub record InFile : Type 0 where
  pub header : Header
  pub files : List AccountFile
  pub opening : FileHead
  pub groups : List Group
  pub warnings : ℕ

-- inside a group: besides, the line that opened it, and its items
pub record InGroup : Type 0 where
  pub header : Header
  pub files : List AccountFile
  pub opening : FileHead
  pub groups : List Group
  pub head : GroupHead
  pub items : List Item
  pub warnings : ℕ

-- before the first line; between account files; inside an account file; inside a group; at the end, with the answer
pub data State : Type 0 where
  at_first : State
  at_file : Between → State
  at_group : InFile → State
  at_item : InGroup → State
  stop : Answer → State

-- the first three digits of the numbers of account files
unfoldable pub seen : List AccountFile → List ℕ
seen [] = []
seen (f ∷ fs) = series f.number ∷ seen fs

-- what the reading of the next line depends on
unfoldable pub context_of : State → Context
context_of at_first = for_head
context_of (at_file x) = for_file x.header (seen x.files)
context_of (at_group x) = for_group x.opening.kind
context_of (at_item x) = for_item x.opening.kind x.head.date (is_nobody x.head.payer)
context_of (stop a) = for_head

-- ---- 3: another kind of line is due

-- kinds by number, to compare them
abbrev pub code : Kind → ℕ
code head_line = 0
code file_line = 1
code group_line = 2
code item_line = 3
code group_end = 4
code file_end = 5

-- are two kinds the same?
abbrev pub is : Kind → Kind → Bool
is a b = eqb (code a) (code b)

-- First the first line; then an account file; in it a group; in that an item, and once there is one, an item or `3 +`; behind `3 +`,
-- a group or `5 +`; behind `5 +`, an account file.
unfoldable pub is_due : State → Kind → Bool
is_due at_first k = is head_line k
is_due (at_file x) k = is file_line k
is_due (at_group x) k = pick (is group_line k) true (pick (is file_end k) (pick (null x.groups) false true) false)
is_due (at_item x) k = pick (is item_line k) true (pick (is group_end k) (pick (null x.items) false true) false)
is_due (stop a) k = false

-- ---- 15: account file 1,001, item 100,000 of an account file, item 1,001 of an S file

-- "Numbers returned", 15: is there no room for one line more of this kind?
unfoldable pub is_full : Sheet → State → Kind → Bool
is_full sh at_first k = false
is_full sh (at_file x) k = leb 1000 (length x.files)
is_full sh (at_group x) k = false
is_full sh (at_item x) k =
    pick (is item_line k)
    (pick (leb 99999 (length x.items + group_items x.groups)) true
    (leb sh.fileitems (length x.items + group_items x.groups + file_items x.files)))
    false
is_full sh (stop a) k = false

-- ---- 10: once the closing line has passed, at the group's total

-- the total differs where that is refused (K, S, P), or the sum passes 14 digits
unfoldable pub total_broken : Bool → ℕ → ℕ → Bool
total_broken strict total exact = pick (ltb most14 exact) true (pick strict (pick (eqb total exact) false true) false)

-- ---- one line, which gives v warnings

-- behind the first line
abbrev pub begun : Header → ℕ → Between
begun h v = record { header = h; files = []; warnings = v }

-- an account file is opened
abbrev pub file_opened : Between → ℕ → ℕ → ℕ → InFile
file_opened x kind number v =
    record {
      header = x.header;
      files = x.files;
      opening = record { kind = kind; number = number };
      groups = [];
      warnings = x.warnings + v;
    }

-- a group is opened in it
abbrev pub group_opened : InFile → GroupHead → ℕ → InGroup
group_opened x g v =
    record {
      header = x.header;
      files = x.files;
      opening = x.opening;
      groups = x.groups;
      head = g;
      items = [];
      warnings = x.warnings + v;
    }

-- an item more
abbrev pub item_added : InGroup → Item → ℕ → InGroup
item_added x i v =
    record {
      header = x.header;
      files = x.files;
      opening = x.opening;
      groups = x.groups;
      head = x.head;
      items = i ∷ x.items;
      warnings = x.warnings + v;
    }

-- the items of the open group in their order
abbrev pub items_of : InGroup → List Item
items_of x = rev_on x.items []

-- a group of the line that opened it and its items
abbrev pub group_of : GroupHead → List Item → Group
group_of g xs = record { date = g.date; payer = g.payer; items = xs }

-- the group is put to the others; a total that differs gives a warning more
abbrev pub group_closed : InGroup → ℕ → InFile
group_closed x v =
    record {
      header = x.header;
      files = x.files;
      opening = x.opening;
      groups = group_of x.head (items_of x) ∷ x.groups;
      warnings = x.warnings + v + differs x.head.total (sum (items_of x));
    }

-- an account file of the line that opened it and its groups
abbrev pub file_of : FileHead → List Group → AccountFile
file_of f gs = record { kind = f.kind; number = f.number; groups = gs }

-- the account file is put to the others
abbrev pub file_closed : InFile → ℕ → Between
file_closed x v =
    record { header = x.header; files = file_of x.opening (rev_on x.groups []) ∷ x.files; warnings = x.warnings + v }

-- the group's end: 10, or it is closed
unfoldable pub closed : Sheet → InGroup → ℕ → State
closed sh x v =
    pick (total_broken sh.strict x.head.total (sum (items_of x)))
    (stop (Refused 10 x.head.line x.head.byte))
    (at_group (group_closed x v))

-- line k, which starts at `at`, says t
unfoldable pub meet : Sheet → ℕ → ℕ → Saying ℕ → State → State
meet sh k at t at_first = on_head t.entry (λ h. at_file (begun h t.warnings)) (stop (Refused 3 k at))
meet sh k at t (at_file x) = on_file t.entry (λ kind number. at_group (file_opened x kind number t.warnings)) (stop (Refused 3 k at))
meet sh k at t (at_group x) =
    on_group t.entry
    (λ payer total date.
    at_item
    (group_opened x (record { payer = payer; date = date; total = total; line = k; byte = at + t.places.total }) t.warnings))
    (at_file (file_closed x t.warnings))
    (stop (Refused 3 k at))
meet sh k at t (at_item x) = on_item t.entry (λ i. at_item (item_added x i t.warnings)) (closed sh x t.warnings) (stop (Refused 3 k at))
meet sh k at t (stop a) = stop a

-- what the line was read as
unfoldable pub on_said : Sheet → ℕ → ℕ → Counted → State → State
on_said sh k at (got t) st = meet sh k at t st
on_said sh k at (no n off) st = stop (Refused n k (at + off))

-- 3 and 15 come before a line's fields, both at the line's start
unfoldable pub read : Sheet → ℕ → ℕ → Line → Kind → State → State
read sh today k t kind st =
    pick (is_due st kind)
    (pick (is_full sh st kind)
    (stop (Refused 15 k t.start))
    (on_said sh k t.start (counted (read_as sh today (context_of st) kind t.bytes)) st))
    (stop (Refused 3 k t.start))

-- the judging ends with the first fault
unfoldable pub step : Sheet → ℕ → ℕ → Line → State → State
step sh today k t at_first = read sh today k t (kind_of t.bytes) at_first
step sh today k t (at_file x) = read sh today k t (kind_of t.bytes) (at_file x)
step sh today k t (at_group x) = read sh today k t (kind_of t.bytes) (at_group x)
step sh today k t (at_item x) = read sh today k t (kind_of t.bytes) (at_item x)
step sh today k t (stop a) = stop a

-- the file ends after n bytes, where line k would be: early, unless an account file was closed
unfoldable pub end_of : ℕ → ℕ → State → Answer
end_of n k at_first = Refused 3 k n
end_of n k (at_file x) = pick (null x.files) (Refused 3 k n) (Accepted x.header (rev_on x.files []) x.warnings)
end_of n k (at_group x) = Refused 3 k n
end_of n k (at_item x) = Refused 3 k n
end_of n k (stop a) = a

-- lines from line k on
unfoldable pub run : Sheet → ℕ → ℕ → ℕ → List Line → State → Answer
run sh today n k [] st = end_of n k st
run sh today n k (t ∷ ts) st = run sh today n (suc k) ts (step sh today k t st)

-- the file from its top
unfoldable pub judge : Sheet → ℕ → List ℕ → Answer
judge sh today f = run sh today (length f) 1 (lines_of 0 f) at_first

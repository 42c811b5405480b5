-- Which file spells which batch: line by line, and the rules over several lines. Document 01, "Lines", with the counts of "The batch"
-- and of refusal 15. A file is accepted exactly when it spells a batch with a header. Assumes nothing.
use Rattle.std.specs.Prelude.{ℕ, ◌+◌, ◌≤◌, ◌≡◌, Bool, true, false, List, [], ◌∷◌, eqb, length}
use Rattle.base.specs.Pick.{pick}
use Rattle.sheet.specs.declared.Sheet.{Sheet}
use Rattle.paper.specs.Accounts.{is_nobody}
use Rattle.paper.specs.Batch.{Item, Group, AccountFile, Batch, Header, sum, most14}
use Rattle.paper.specs.Lines.{Line, lines_of}
use Rattle.paper.specs.Entries.{Entry, head, file, group, item, close_group, close_file, Places, Listed, Counted, said, counted, Kind, head_line, file_line, group_line, item_line, group_end, file_end, kind_of}
use Rattle.paper.specs.Terms.{day_here, bank_due}
use Rattle.paper.specs.FirstLine.{read_first}
use Rattle.paper.specs.FileLine.{series, number_fault, read_file}
use Rattle.paper.specs.GroupLine.{read_group}
use Rattle.paper.specs.ItemLine.{read_item}
use Rattle.paper.specs.ClosingLine.{read_close}

-- ---- one line

-- Which numbers may an account file have? Any; or those that the header and the first three digits of earlier numbers leave.
pub data Numbers : Type 0 where
  any_number : Numbers
  after : Header → List ℕ → Numbers

-- What the reading of a line depends on, besides its sheet and today: which numbers an account file may have, the kind of the account file
-- that the line stands in, its group's due date, and whether the group is single. What is not there yet is 0, or nothing.
pub record Context : Type 0 where
  pub numbers : Numbers
  pub kind : ℕ
  pub date : ℕ
  pub single : Bool

-- the first line
abbrev pub for_head : Context
for_head = record { numbers = any_number; kind = 0; date = 0; single = false }

-- a line between account files
abbrev pub for_file : Header → List ℕ → Context
for_file h seen = record { numbers = after h seen; kind = 0; date = 0; single = false }

-- a line of an account file of that kind, between groups
abbrev pub for_group : ℕ → Context
for_group kind = record { numbers = any_number; kind = kind; date = 0; single = false }

-- a line of a group
abbrev pub for_item : ℕ → ℕ → Bool → Context
for_item kind date single = record { numbers = any_number; kind = kind; date = date; single = single }

-- the refusal that a number gets there
unfoldable pub number_test : Sheet → Numbers → ℕ → ℕ
number_test sh any_number n = 0
number_test sh (after h seen) n = number_fault sh.interval h seen n

-- a line of a known kind, read by the definition of that kind
unfoldable pub read_as : Sheet → ℕ → Context → Kind → List ℕ → Listed
read_as sh today c head_line s = read_first sh s
read_as sh today c file_line s = read_file sh (number_test sh c.numbers) s
read_as sh today c group_line s = read_group sh today (day_here sh c.kind) s
read_as sh today c item_line s = read_item sh (bank_due sh today c.kind c.date) c.single s
read_as sh today c group_end s = read_close sh.near close_group s
read_as sh today c file_end s = read_close sh.near close_file s

-- a line, read by what its start says it is, with its warnings counted
unfoldable pub read_line : Sheet → ℕ → Context → List ℕ → Counted
read_line sh today c s = counted (read_as sh today c (kind_of s) s)

-- the line says the entry, with w warnings
abbrev pub Reads : Sheet → ℕ → List ℕ → Context → Entry → ℕ → Type 0
Reads sh today s c e w = (p : Places) × (read_line sh today c s ≡ said e w p)

-- ---- the lines of a batch

-- an entry that is due, in its context
pub record Due : Type 0 where
  pub context : Context
  pub entry : Entry

-- an entry in a context
abbrev pub due : Context → Entry → Due
due c e = record { context = c; entry = e }

-- a group's items, and the line that closes it, in front of the lines r
unfoldable pub item_dues : Context → List Item → List Due → List Due
item_dues c [] r = due c close_group ∷ r
item_dues c (x ∷ xs) r = due c (item x) ∷ item_dues c xs r

-- the groups of an account file of that kind, each with the exact sum of its items as its total, and the line that closes it
unfoldable pub group_dues : ℕ → List Group → List Due → List Due
group_dues kind [] r = due (for_group kind) close_file ∷ r
group_dues kind (g ∷ gs) r =
    due (for_group kind) (group g.payer (sum g.items) g.date)
    ∷ item_dues (for_item kind g.date (is_nobody g.payer)) g.items (group_dues kind gs r)

-- account files; `seen` are the first three digits of earlier numbers
unfoldable pub file_dues : Header → List ℕ → List AccountFile → List Due
file_dues h seen [] = []
file_dues h seen (f ∷ fs) =
    due (for_file h seen) (file f.kind f.number) ∷ group_dues f.kind f.groups (file_dues h (series f.number ∷ seen) fs)

-- the first line, then the account files
unfoldable pub dues : Header → Batch → List Due
dues h b = due for_head (head h) ∷ file_dues h [] b

-- ---- the lines say the entries

-- one warning where a total differs from the sum
unfoldable pub differs : ℕ → ℕ → ℕ
differs total exact = pick (eqb total exact) 0 1

-- A group's line may give another total than the exact one where the sheet only warns of it (C, E). Every other line says its entry.
abbrev pub SaysEntry : Sheet → ℕ → List ℕ → Context → Entry → ℕ → Type 0
SaysEntry sh today s c (group payer exact date) w =
    (total : ℕ) × (v : ℕ) × Reads sh today s c (group payer total date) v × (sh.strict ≡ true → total ≡ exact) × (w ≡ v + differs total exact)
SaysEntry sh today s c (head h) w = Reads sh today s c (head h) w
SaysEntry sh today s c (file k n) w = Reads sh today s c (file k n) w
SaysEntry sh today s c (item x) w = Reads sh today s c (item x) w
SaysEntry sh today s c close_group w = Reads sh today s c close_group w
SaysEntry sh today s c close_file w = Reads sh today s c close_file w

-- the line says the entry that is due
abbrev pub Says : Sheet → ℕ → List ℕ → Due → ℕ → Type 0
Says sh today s d w = SaysEntry sh today s d.context d.entry w

-- each line says the entry that is due, and w is the sum of their warnings
abbrev pub Each : Sheet → ℕ → List Line → List Due → ℕ → Type 0
Each sh today [] [] w = w ≡ 0
Each sh today [] (d ∷ ds) w = ⊥
Each sh today (t ∷ ts) [] w = ⊥
Each sh today (t ∷ ts) (d ∷ ds) w = (v : ℕ) × (u : ℕ) × Says sh today t.bytes d v × Each sh today ts ds u × (w ≡ v + u)

-- ---- the rules over several lines

-- how many items groups have
unfoldable pub group_items : List Group → ℕ
group_items [] = 0
group_items (g ∷ gs) = length g.items + group_items gs

-- how many items account files have
unfoldable pub file_items : List AccountFile → ℕ
file_items [] = 0
file_items (f ∷ fs) = group_items f.groups + file_items fs

-- a group has an item or more, and its sum has at most 14 digits
abbrev pub GroupRules : List Group → Type 0
GroupRules [] = Unit {0}
GroupRules (g ∷ gs) = (1 ≤ length g.items) × (sum g.items ≤ most14) × GroupRules gs

-- an account file has a group or more, and at most 99,999 items
abbrev pub FileRules : List AccountFile → Type 0
FileRules [] = Unit {0}
FileRules (f ∷ fs) = (1 ≤ length f.groups) × (group_items f.groups ≤ 99999) × GroupRules f.groups × FileRules fs

-- there are 1 to 1,000 account files, and on S at most 1,000 items
abbrev pub Rules : Sheet → Batch → Type 0
Rules sh b = (1 ≤ length b) × (length b ≤ 1000) × (file_items b ≤ sh.fileitems) × FileRules b

-- ---- a file spells a batch with a header, with w warnings
pub record Spells (sh : Sheet) (today : ℕ) (f : List ℕ) (h : Header) (b : Batch) (w : ℕ) : Type 0 where
  pub lines : Each sh today (lines_of 0 f) (dues h b) w
  pub rules : Rules sh b

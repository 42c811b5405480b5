-- Which rows and headers are as "The batch" says, and where they first are not: refusal 20, with row and field. Assumes nothing.
-- Field numbers are docs/ROWS.md's: the number of the word in its row; 0 is the row's kind.
use Rattle.std.specs.Prelude.{ℕ, suc, ◌+◌, Bool, true, false, List, [], ◌∷◌, eqb, ltb, leb, length}
use Rattle.base.specs.Pick.{pick}
use Rattle.base.specs.Seek.{all}
use Rattle.paper.specs.Bytes.{is_text}
use Rattle.paper.specs.Days.{real_day}
use Rattle.paper.specs.Accounts.{Account, account_proper, is_nobody}
use Rattle.paper.specs.Amounts.{amount_proper}
use Rattle.paper.specs.BankField.{bank_proper, priority_proper}
use Rattle.paper.specs.Texts.{part_proper, name_proper}
use Rattle.paper.specs.Batch.{Item, Header, Thing, a_file, a_group, an_item, misnumbered, strange, most14}

-- nothing is wrong, or what is wrong first: the row and the field
pub data Verdict : Type 0 where
  fine : Verdict
  wrong : ℕ → ℕ → Verdict

-- field n of row k passes its test, and what comes after it is judged; or it does not
unfoldable pub check : ℕ → ℕ → Bool → Verdict → Verdict
check k n ok rest = pick ok rest (wrong k n)

-- ---- the header: row 0, fields in the order in which "The batch" names them

-- a real day; 20 text bytes; a client number of ten digits; interval start and end of three
unfoldable pub header_proper : Header → Verdict
header_proper h =
    check 0 1 (real_day h.date)
    (check 0 2 (pick (eqb (length h.name) 20) (all is_text h.name) false)
    (check 0 3 (ltb h.client 10000000000)
    (check 0 4 (ltb h.from 1000)
    (check 0 5 (ltb h.to 1000) fine))))

-- ---- rows

-- what may come next: only an account file (at the top), only a group (behind an account file), only an item (behind a group's row), or any
pub data Stage : Type 0 where
  need_file need_group need_item any : Stage

-- may an account file come here?
unfoldable pub file_due : Stage → Bool
file_due need_file = true
file_due need_group = false
file_due need_item = false
file_due any = true

-- may a group?
unfoldable pub group_due : Stage → Bool
group_due need_file = false
group_due need_group = true
group_due need_item = false
group_due any = true

-- may an item?
unfoldable pub item_due : Stage → Bool
item_due need_file = false
item_due need_group = false
item_due need_item = true
item_due any = true

-- may the rows end here?
unfoldable pub may_stop : Stage → Bool
may_stop need_file = false
may_stop need_group = false
may_stop need_item = false
may_stop any = true

-- what may come next, and of the rows before: account files, items of the last account file, whether the last group is single, and its sum
pub record Before : Type 0 where
  pub stage : Stage
  pub files : ℕ
  pub items : ℕ
  pub single : Bool
  pub sum : ℕ

-- before the first row
abbrev pub at_top : Before
at_top = record { stage = need_file; files = 0; items = 0; single = false; sum = 0 }

-- what stands before the next row, behind an account file's
abbrev pub after_file : Before → Before
after_file b = record { stage = need_group; files = b.files + 1; items = 0; single = false; sum = 0 }

-- .. behind a group's
abbrev pub after_group : Before → Account → Before
after_group b payer = record { stage = need_item; files = b.files; items = b.items; single = is_nobody payer; sum = 0 }

-- .. behind an item's
abbrev pub after_item : Before → Item → Before
after_item b x = record { stage = any; files = b.files; items = b.items + 1; single = b.single; sum = b.sum + x.amount }

-- a kind is 1501 to 1504
unfoldable pub kind_proper : ℕ → Bool
kind_proper k = pick (ltb k 1501) false (leb k 1504)

-- a group's payer is nobody or a valid account
unfoldable pub payer_proper : Account → Bool
payer_proper a = pick (is_nobody a) true (account_proper a)

-- an item has a payer exactly in a single group
unfoldable pub item_payer_proper : Bool → Account → Bool
item_payer_proper single a = pick single (account_proper a) (is_nobody a)

-- message parts, the first of which is field n
unfoldable pub parts_from : ℕ → ℕ → List (List ℕ) → Verdict → Verdict
parts_from k n [] rest = rest
parts_from k n (p ∷ ps) rest = check k n (part_proper p) (parts_from k (n + 2) ps rest)

-- an item's fields; a sum that passes 14 digits is the amount's fault
unfoldable pub item_proper : ℕ → Bool → ℕ → Item → Verdict → Verdict
item_proper k single before x rest =
    check k 1 (item_payer_proper single x.payer)
    (check k 3 (account_proper x.payee)
    (check k 5 (bank_proper x.bank)
    (check k 6 (pick (amount_proper most14 x.amount) (leb (before + x.amount) most14) false)
    (check k 7 (ltb x.variable 10000000000)
    (check k 8 (ltb x.specific 10000000000)
    (check k 9 (ltb x.constant 10000)
    (check k 10 (priority_proper x.priority)
    (parts_from k 11 x.parts
    (check k 19 (name_proper x.name) rest)))))))))

-- an item may stand here, and is not number 100,000 of its account file; its fields
abbrev pub item_stands : ℕ → Before → Item → Verdict → Verdict
item_stands k b x rest = check k 0 (pick (item_due b.stage) (ltb b.items 99999) false) (item_proper k b.single b.sum x rest)

-- The rows from row k on; the list's end is a missing row, unless any may come next. An item's reference is its last field, 21 (document 02, W-206).
unfoldable pub rows_proper : ℕ → Before → List Thing → Verdict
rows_proper k b [] = check k 0 (may_stop b.stage) fine
rows_proper k b (a_file kind number ∷ ts) =
    check k 0 (pick (file_due b.stage) (ltb b.files 1000) false)
    (check k 1 (kind_proper kind)
    (check k 2 (ltb number 1000000) (rows_proper (suc k) (after_file b) ts)))
rows_proper k b (a_group date payer ∷ ts) =
    check k 0 (group_due b.stage)
    (check k 1 (real_day date)
    (check k 2 (payer_proper payer) (rows_proper (suc k) (after_group b payer) ts)))
rows_proper k b (an_item x ∷ ts) = item_stands k b x (rows_proper (suc k) (after_item b x) ts)
rows_proper k b (misnumbered x ∷ ts) = item_stands k b x (wrong k 21)
rows_proper k b (strange ∷ ts) = wrong k 0

-- "The batch", whole: 1 to 1,000 account files of one or more groups, each of one or more items
unfoldable pub batch_proper : List Thing → Verdict
batch_proper ts = rows_proper 1 at_top ts

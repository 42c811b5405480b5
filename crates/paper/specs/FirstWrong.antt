-- The first row and field that break a rule, declared: refusals 20 and 21. Document 01, "The batch" and "Numbers returned". The rules are
-- listed in the testing order, each with its row and field; what a rule asks of other rows it asks of those before its own. Assumes nothing.
use Rattle.std.specs.Prelude.{ℕ, suc, ◌+◌, ◌*◌, ◌≡◌, Bool, true, false, List, [], ◌∷◌, ◌++◌, eqb, ltb, leb, length}
use Rattle.base.specs.Pick.{pick}
use Rattle.base.specs.Seek.{all}
use Rattle.sheet.specs.declared.Sheet.{Sheet}
use Rattle.sheet.specs.Sheets.{kind_allowed}
use Rattle.paper.specs.Bytes.{is_text}
use Rattle.paper.specs.Days.{real_day, due_allowed}
use Rattle.paper.specs.Terms.{day_here, bank_due}
use Rattle.paper.specs.Accounts.{account_proper, is_nobody}
use Rattle.paper.specs.Amounts.{amount_proper}
use Rattle.paper.specs.BankField.{bank_proper, priority_proper, priority_carried}
use Rattle.paper.specs.Texts.{part_proper, name_proper, part_carried, name_carried}
use Rattle.paper.specs.Batch.{Item, Header, Thing, a_file, a_group, an_item, misnumbered, strange, sum, most14}
use Rattle.paper.specs.FileLine.{series, number_allowed}
use Rattle.paper.specs.Proper.{Stage, need_file, need_group, need_item, any, file_due, group_due, item_due, may_stop, kind_proper, payer_proper, item_payer_proper}

-- ---- rules, in the order in which they are tested

-- a rule: the row and field that it is for, and whether it is met
pub record Rule : Type 0 where
  pub row : ℕ
  pub field : ℕ
  pub met : Bool

-- the rule for field n of row k
abbrev pub rule : ℕ → ℕ → Bool → Rule
rule k n ok = record { row = k; field = n; met = ok }

-- all rules are met
abbrev pub AllMet : List Rule → Type 0
AllMet [] = Unit {0}
AllMet (r ∷ rs) = (r.met ≡ true) × AllMet rs

-- the first rule that is not met is for this field of this row
pub record FirstWrong (rules : List Rule) (row field : ℕ) : Type 0 where
  pub before : List Rule
  pub after : List Rule
  pub split : rules ≡ before ++ (rule row field false ∷ after)
  pub lawful : AllMet before

-- ---- what the rows before a row hold; they are listed last one first. Behind a row that is not of a batch no rule matters any more.

-- the first three digits of each account file's number
unfoldable pub series_in : List Thing → List ℕ
series_in [] = []
series_in (a_file kind number ∷ ts) = series number ∷ series_in ts
series_in (a_group date payer ∷ ts) = series_in ts
series_in (an_item x ∷ ts) = series_in ts
series_in (misnumbered x ∷ ts) = series_in ts
series_in (strange ∷ ts) = series_in ts

-- all items
unfoldable pub items_in : List Thing → List Item
items_in [] = []
items_in (a_file kind number ∷ ts) = items_in ts
items_in (a_group date payer ∷ ts) = items_in ts
items_in (an_item x ∷ ts) = x ∷ items_in ts
items_in (misnumbered x ∷ ts) = items_in ts
items_in (strange ∷ ts) = items_in ts

-- the items since the last account file's row
unfoldable pub items_of_file : List Thing → List Item
items_of_file [] = []
items_of_file (a_file kind number ∷ ts) = []
items_of_file (a_group date payer ∷ ts) = items_of_file ts
items_of_file (an_item x ∷ ts) = x ∷ items_of_file ts
items_of_file (misnumbered x ∷ ts) = items_of_file ts
items_of_file (strange ∷ ts) = items_of_file ts

-- the items since the last group's row
unfoldable pub items_of_group : List Thing → List Item
items_of_group [] = []
items_of_group (a_file kind number ∷ ts) = []
items_of_group (a_group date payer ∷ ts) = []
items_of_group (an_item x ∷ ts) = x ∷ items_of_group ts
items_of_group (misnumbered x ∷ ts) = items_of_group ts
items_of_group (strange ∷ ts) = items_of_group ts

-- has the last group no payer, so that its items have one each?
unfoldable pub in_single : List Thing → Bool
in_single [] = false
in_single (a_file kind number ∷ ts) = false
in_single (a_group date payer ∷ ts) = is_nobody payer
in_single (an_item x ∷ ts) = in_single ts
in_single (misnumbered x ∷ ts) = in_single ts
in_single (strange ∷ ts) = in_single ts

-- the kind of the last account file, 0 where there is none
unfoldable pub kind_in : List Thing → ℕ
kind_in [] = 0
kind_in (a_file kind number ∷ ts) = kind
kind_in (a_group date payer ∷ ts) = kind_in ts
kind_in (an_item x ∷ ts) = kind_in ts
kind_in (misnumbered x ∷ ts) = kind_in ts
kind_in (strange ∷ ts) = kind_in ts

-- the due date of its last group, 0 where there is none
unfoldable pub date_in : List Thing → ℕ
date_in [] = 0
date_in (a_file kind number ∷ ts) = 0
date_in (a_group date payer ∷ ts) = date
date_in (an_item x ∷ ts) = date_in ts
date_in (misnumbered x ∷ ts) = date_in ts
date_in (strange ∷ ts) = date_in ts

-- what may come next, by the last of them
unfoldable pub stage_behind : List Thing → Stage
stage_behind [] = need_file
stage_behind (a_file kind number ∷ ts) = need_group
stage_behind (a_group date payer ∷ ts) = need_item
stage_behind (an_item x ∷ ts) = any
stage_behind (misnumbered x ∷ ts) = need_file
stage_behind (strange ∷ ts) = need_file

-- ---- the rules of rows

-- from row k on: the rules of each row, by the rows before it, and at last those of the end, where one row more would stand
unfoldable pub in_order : (ℕ → List Thing → Thing → List Rule) → (ℕ → List Thing → List Rule) → ℕ → List Thing → List Thing → List Rule
in_order of_row of_end k before [] = of_end k before
in_order of_row of_end k before (t ∷ ts) = of_row k before t ++ in_order of_row of_end (suc k) (t ∷ before) ts

-- of message parts, the first of them being part i: part 0 is field 11, part 1 field 13, part 2 field 15, part 3 field 17
unfoldable pub part_rules : ℕ → (ℕ → List ℕ → Bool) → ℕ → List (List ℕ) → List Rule
part_rules k ok i [] = []
part_rules k ok i (p ∷ ps) = rule k (11 + 2 * i) (ok i p) ∷ part_rules k ok (suc i) ps

-- ---- 20: "The batch"

-- the header is row 0: a real day; a name of 20 bytes, all text bytes; a client number of ten digits; interval start and end of three
unfoldable pub proper_header : Header → List Rule
proper_header h =
    rule 0 1 (real_day h.date)
    ∷ rule 0 2 (eqb (length h.name) 20)
    ∷ rule 0 2 (all is_text h.name)
    ∷ rule 0 3 (ltb h.client 10000000000)
    ∷ rule 0 4 (ltb h.from 1000)
    ∷ rule 0 5 (ltb h.to 1000)
    ∷ []

-- of an item: it may stand here, and is not number 100,000 of its account file; its fields, and with its amount the group's sum is not too large
unfoldable pub item_rules : ℕ → List Thing → Item → List Rule
item_rules k before x =
    rule k 0 (item_due (stage_behind before))
    ∷ rule k 0 (ltb (length (items_of_file before)) 99999)
    ∷ rule k 1 (item_payer_proper (in_single before) x.payer)
    ∷ rule k 3 (account_proper x.payee)
    ∷ rule k 5 (bank_proper x.bank)
    ∷ rule k 6 (amount_proper most14 x.amount)
    ∷ rule k 6 (leb (sum (x ∷ items_of_group before)) most14)
    ∷ rule k 7 (ltb x.variable 10000000000)
    ∷ rule k 8 (ltb x.specific 10000000000)
    ∷ rule k 9 (ltb x.constant 10000)
    ∷ rule k 10 (priority_proper x.priority)
    ∷ (part_rules k (λ i p. part_proper p) 0 x.parts ++ (rule k 19 (name_proper x.name) ∷ []))

-- An account file may stand here, and is not number 1,001; its kind, its number. A group may stand here; its day, its payer. An item's rules; where
-- its reference is out of range (document 02, W-206) that is the last of them, and is not met. A row of no known kind may stand nowhere.
unfoldable pub proper_row : ℕ → List Thing → Thing → List Rule
proper_row k before (a_file kind number) =
    rule k 0 (file_due (stage_behind before))
    ∷ rule k 0 (ltb (length (series_in before)) 1000)
    ∷ rule k 1 (kind_proper kind)
    ∷ rule k 2 (ltb number 1000000)
    ∷ []
proper_row k before (a_group date payer) =
    rule k 0 (group_due (stage_behind before)) ∷ rule k 1 (real_day date) ∷ rule k 2 (payer_proper payer) ∷ []
proper_row k before (an_item x) = item_rules k before x
proper_row k before (misnumbered x) = item_rules k before x ++ (rule k 21 false ∷ [])
proper_row k before strange = rule k 0 false ∷ []

-- the rows may end here: no row is missing
unfoldable pub proper_end : ℕ → List Thing → List Rule
proper_end k before = rule k 0 (may_stop (stage_behind before)) ∷ []

-- the header's, where the sheet has one; then the rows', which count from 1
unfoldable pub proper_rules : Sheet → Header → List Thing → List Rule
proper_rules sh h ts = pick sh.header (proper_header h) [] ++ in_order proper_row proper_end 1 [] ts

-- ---- 21: what one sheet carries on a day

module _ (sh : Sheet) (today : ℕ) (h : Header) where
  -- K: the interval's start is not above its end
  unfoldable pub carried_header : List Rule
  carried_header = rule 0 5 (pick sh.interval (leb h.from h.to) true) ∷ []

  -- An account file's kind and number. A group's day, where it is judged here. An item is not number 1,001 on S; its payee bank, by the group's day
  -- in a collection; its amount, priority, parts and name.
  unfoldable pub carried_row : ℕ → List Thing → Thing → List Rule
  carried_row k before (a_file kind number) =
      rule k 1 (kind_allowed sh kind) ∷ rule k 2 (number_allowed sh.interval h (series_in before) number) ∷ []
  carried_row k before (a_group date payer) = rule k 1 (due_allowed (day_here sh (kind_in before)) sh.early sh.ahead today date) ∷ []
  carried_row k before (an_item x) =
      rule k 0 (ltb (length (items_in before)) sh.fileitems)
      ∷ rule k 5 (bank_due sh today (kind_in before) (date_in before) x.bank)
      ∷ rule k 6 (amount_proper sh.itemmax x.amount)
      ∷ rule k 10 (priority_carried sh.priority x.priority)
      ∷ (part_rules k (part_carried sh.text) 0 x.parts ++ (rule k 19 (name_carried sh.text x.name) ∷ []))
  carried_row k before (misnumbered x) = rule k 21 false ∷ []
  carried_row k before strange = rule k 0 false ∷ []

  -- the header's, where the sheet has one; then the rows'; their end has none
  unfoldable pub carried_rules : List Thing → List Rule
  carried_rules ts = pick sh.header carried_header [] ++ in_order carried_row (λ k before. []) 1 [] ts

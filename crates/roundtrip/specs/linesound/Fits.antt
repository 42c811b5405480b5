-- What an entry has that a line may say: the tests of "The batch", and of what its sheet can carry. Assumes nothing.
use Rattle.std.specs.Prelude.{ℕ, ◌^◌, ◌<◌, ◌≡◌, Bool, true, false, eqb, ltb}
use Rattle.sheet.specs.declared.Sheet.{Sheet}
use Rattle.sheet.specs.Sheets.{kind_allowed}
use Rattle.paper.specs.Days.{real_day, due_allowed, due_warnings}
use Rattle.paper.specs.Terms.{day_here, bank_due}
use Rattle.paper.specs.Accounts.{Account, account_proper}
use Rattle.paper.specs.Amounts.{amount_proper}
use Rattle.paper.specs.BankField.{bank_proper, priority_proper, priority_carried}
use Rattle.paper.specs.Batch.{Item, Header, no_header, most14}
use Rattle.paper.specs.Proper.{fine, header_proper, kind_proper, payer_proper, item_payer_proper}
use Rattle.paper.specs.Carried.{header_carried}
use Rattle.paper.specs.Entries.{Entry, head, file, group, item, close_group, close_file}
use Rattle.paper.specs.Spells.{Context, number_test}
use Rattle.text.specs.wording.Wording.{Sendable}

-- a header: C's where the sheet's first line has no fields
pub record HeadFits (sh : Sheet) (h : Header) : Type 0 where
  pub is_proper : sh.header ≡ true → header_proper h ≡ fine
  pub is_carried : sh.header ≡ true → header_carried sh.interval h ≡ fine
  pub is_none : sh.header ≡ false → h ≡ no_header

-- kind and number of an account file; the test is what the header and earlier account files ask
pub record FileFits (sh : Sheet) (test : ℕ → ℕ) (kind number : ℕ) : Type 0 where
  pub kind-proper : kind_proper kind ≡ true
  pub kind-allowed : kind_allowed sh kind ≡ true
  pub number_low : number < 10 ^ 6
  pub number-allowed : eqb (test number) 0 ≡ true

-- payer, total and due date of a group, whose day is judged here or not
pub record GroupFits (sh : Sheet) (today : ℕ) (here : Bool) (payer : Account) (total date : ℕ) : Type 0 where
  pub payer-proper : payer_proper payer ≡ true
  pub total_low : total < 10 ^ 14
  pub date_real : real_day date ≡ true
  pub date_allowed : due_allowed here sh.early sh.ahead today date ≡ true

-- an item, of a group that is single or not; `due` says which payee banks may be due on its day
pub record ItemFits (sh : Sheet) (due : ℕ → Bool) (single : Bool) (x : Item) : Type 0 where
  pub payer-proper : item_payer_proper single x.payer ≡ true
  pub payee_proper : account_proper x.payee ≡ true
  pub bank-proper : bank_proper x.bank ≡ true
  pub bank-due : due x.bank ≡ true
  pub amount-proper : amount_proper most14 x.amount ≡ true
  pub amount_carried : amount_proper sh.itemmax x.amount ≡ true
  pub variable_low : ltb x.variable 10000000000 ≡ true
  pub specific_low : ltb x.specific 10000000000 ≡ true
  pub constant_low : ltb x.constant 10000 ≡ true
  pub priority-proper : priority_proper x.priority ≡ true
  pub priority-carried : priority_carried sh.priority x.priority ≡ true
  pub texts : Sendable sh.text x.parts x.name

-- an entry, where numbers of account files are tested so, a group's day is judged here or not, such payee banks may be due, and groups are
-- single or not
abbrev pub FitsIn : Sheet → ℕ → (ℕ → ℕ) → Bool → (ℕ → Bool) → Bool → Entry → Type 0
FitsIn sh today test here due single (head h) = HeadFits sh h
FitsIn sh today test here due single (file kind number) = FileFits sh test kind number
FitsIn sh today test here due single (group payer total date) = GroupFits sh today here payer total date
FitsIn sh today test here due single (item x) = ItemFits sh due single x
FitsIn sh today test here due single close_group = Unit {0}
FitsIn sh today test here due single close_file = Unit {0}

-- an entry in its context
abbrev pub Fits : Sheet → ℕ → Context → Entry → Type 0
Fits sh today c e = FitsIn sh today (number_test sh c.numbers) (day_here sh c.kind) (bank_due sh today c.kind c.date) c.single e

-- How many warnings the canonical line of an entry gives: one for a past due day, where it is judged (`here`) and the sheet warns of it.
abbrev pub warnings : Sheet → ℕ → Bool → Entry → ℕ
warnings sh today here (head h) = 0
warnings sh today here (file kind number) = 0
warnings sh today here (group payer total date) = due_warnings here sh.warnpast today date
warnings sh today here (item x) = 0
warnings sh today here close_group = 0
warnings sh today here close_file = 0

-- any line of an entry gives as many, but an item's, which may have digits and texts that are warned of
abbrev pub Warned : Sheet → ℕ → Bool → Entry → ℕ → Type 0
Warned sh today here (head h) w = w ≡ 0
Warned sh today here (file kind number) w = w ≡ 0
Warned sh today here (group payer total date) w = w ≡ due_warnings here sh.warnpast today date
Warned sh today here (item x) w = Unit {0}
Warned sh today here close_group w = w ≡ 0
Warned sh today here close_file w = w ≡ 0

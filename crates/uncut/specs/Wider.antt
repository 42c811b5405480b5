-- When a sheet takes what another one takes, field by field, and reads it alike. Document 01, "Lines", of two sheets. Assumes nothing.
use Rattle.std.specs.Prelude.{ℕ, ◌+◌, ◌≤◌, ◌≡◌, true, false, List, [], ◌∷◌, length}
use Rattle.sheet.specs.declared.Sheet.{Sheet}
use Rattle.sheet.specs.declared.Style.{Style}
use Rattle.sheet.specs.Sheets.{bank_allowed}
use Rattle.paper.specs.Accounts.{Account}
use Rattle.paper.specs.Batch.{Item, Header, no_header}
use Rattle.paper.specs.Texts.{Noted}
use Rattle.paper.specs.ItemLine.{part_bytes}
use Rattle.paper.specs.Entries.{Entry, group, item}
use Rattle.paper.specs.Spells.{Due, differs}
use Rattle.uncut.specs.Unmarked.{Unmarked}

-- The first line: both sheets read it alike, or the wider one takes any. `turn` says what becomes of the header that the narrower one reads.
pub data Heads (turn : Header → Header) (a b : Sheet) : Type 0 where
  read_alike : ((h : Header) → turn h ≡ h) → a.header ≡ b.header → a.short ≡ b.short → a.interval ≡ b.interval → Heads turn a b
  read_none : ((h : Header) → turn h ≡ no_header) → b.header ≡ false → b.interval ≡ false → Heads turn a b

-- Names: both sheets read them or neither does. Or the wider one alone, of texts (`On`) without ` NP:` for which the narrower one asks `AV:`, and
-- which it does not cut.
pub data Names (On : Noted → Type 0) (y z : Style) : Type 0 where
  named_alike : y.names ≡ z.names → Names On y z
  named_more : y.names ≡ false → z.names ≡ true → y.may ≡ false → y.cuts ≡ false → y.most ≤ 4 → ((t : Noted) → On t → Unmarked (part_bytes t)) → Names On y z

-- Of the texts that `On` lets through: what the narrower style y reads the wider style z reads alike.
pub record WiderStyle (On : Noted → Type 0) (y z : Style) : Type 0 where
  pub av : y.av ≡ z.av
  pub may : y.may ≡ true → z.may ≡ true
  pub names : Names On y z
  pub most : y.most ≤ z.most
  pub cuts : (t : Noted) → On t → y.cuts ≡ true → z.cuts ≡ false → t.warnings ≡ []
  pub clean : z.clean ≡ true → y.clean ≡ true

-- these are the texts of an item that is let through with the warnings of its line, some of them for its texts
pub record TextsOf (Only : Entry → ℕ → Type 0) (t : Noted) : Type 0 where
  pub of : Item
  pub warned : ℕ
  pub only : Only (item of) warned
  pub parts : of.parts ≡ part_bytes t
  pub name : of.name ≡ t.name.bytes
  pub warnings : length t.warnings ≤ warned

-- Of the entries, each with the warnings of its line, that `Only` lets through: what the narrower sheet a reads the wider sheet b reads alike.
-- What is warned of on one is warned of on the other. A field that has to be the same on both is not compared.
pub record Wider (Only : Entry → ℕ → Type 0) (turn : Header → Header) (a b : Sheet) : Type 0 where
  -- the first line, and with it the numbers of account files
  pub heads : Heads turn a b
  -- `1 KIND NUMBER BANK`
  pub kinds : a.lastkind ≤ b.lastkind
  pub banks : (code : ℕ) → bank_allowed a code ≡ true → bank_allowed b code ≡ true
  -- accounts, and a group's payer
  pub joined : a.joined ≡ true → b.joined ≡ true
  pub base : b.basemin ≤ a.basemin
  pub empty : a.emptypayer ≡ b.emptypayer
  pub zero : a.zeropayer ≡ b.zeropayer
  -- a group's due date
  pub long : a.longdate ≡ true → b.longdate ≡ true
  pub early : a.early ≡ true → b.early ≡ true
  pub ahead : a.ahead ≤ b.ahead
  pub past : a.warnpast ≡ b.warnpast
  -- the days of collections, which are judged for each item, by whether its payee bank is the sheet's own
  pub collects : a.collects ≡ b.collects
  pub own : a.bank ≡ b.bank
  -- totals, and an item's amount
  pub comma : a.comma ≡ true → b.comma ≡ true
  pub digits : a.itemdigits ≤ b.itemdigits
  pub amount : a.itemmax ≤ b.itemmax
  -- the bank field and the tail
  pub priority : a.priority ≡ b.priority
  pub fixed : a.fixedtail ≡ b.fixedtail
  pub bare : a.bare ≡ true → b.bare ≡ true
  pub texts : WiderStyle (TextsOf Only) a.text b.text
  -- `3+` and `5+`
  pub near : a.near ≡ true → b.near ≡ true
  -- a total that may differ from the sum
  pub totals : (payer : Account) (total sum date v : ℕ) → Only (group payer sum date) (v + differs total sum)
      → Only (group payer total date) v × ((a.strict ≡ true → total ≡ sum) → b.strict ≡ true → total ≡ sum)
  -- items of the whole file
  pub items : a.fileitems ≤ b.fileitems

-- however w warnings are divided among the entries that are due, each entry is let through with its own
abbrev pub Throughout : (Entry → ℕ → Type 0) → List Due → ℕ → Type 0
Throughout Only [] w = Unit {0}
Throughout Only (d ∷ ds) w = (v u : ℕ) → w ≡ v + u → Only d.entry v × Throughout Only ds u

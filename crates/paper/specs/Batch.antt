-- What a batch and a header are. Document 01, "The batch". Assumes nothing.
use Rattle.std.specs.Prelude.{ℕ, ◌+◌, List, [], ◌∷◌}
use Rattle.paper.specs.Accounts.{Account}

-- Texts are their bytes here: two batches are equal when their fields and the bytes of their texts are. The payer is `nobody` in a
-- collective group; there are four parts.
pub record Item : Type 0 where
  pub payer : Account
  pub payee : Account
  pub bank : ℕ
  pub amount : ℕ
  pub variable : ℕ
  pub specific : ℕ
  pub constant : ℕ
  pub priority : ℕ
  pub parts : List (List ℕ)
  pub name : List ℕ

-- the payer is `nobody` in a single group
pub record Group : Type 0 where
  pub date : ℕ
  pub payer : Account
  pub items : List Item

-- "The batch": a kind, a six-digit number and the groups
pub record AccountFile : Type 0 where
  pub kind : ℕ
  pub number : ℕ
  pub groups : List Group

-- "The batch": account files in their order
abbrev pub Batch : Type 0
Batch = List AccountFile

-- "The batch", the header: creation date, name, client number, interval start and end
pub record Header : Type 0 where
  pub date : ℕ
  pub name : List ℕ
  pub client : ℕ
  pub from : ℕ
  pub to : ℕ

-- 20 spaces
abbrev pub spaces20 : List ℕ
spaces20 = 32 ∷ 32 ∷ 32 ∷ 32 ∷ 32 ∷ 32 ∷ 32 ∷ 32 ∷ 32 ∷ 32 ∷ 32 ∷ 32 ∷ 32 ∷ 32 ∷ 32 ∷ 32 ∷ 32 ∷ 32 ∷ 32 ∷ 32 ∷ []

-- the header that C returns, and every refusal: zeros, and a name of spaces
abbrev pub no_header : Header
no_header = record { date = 0; name = spaces20; client = 0; from = 0; to = 0 }

-- the exact sum of a group
unfoldable pub sum : List Item → ℕ
sum [] = 0
sum (x ∷ xs) = x.amount + sum xs

-- a group's sum, and each amount, is at most this
abbrev pub most14 : ℕ
most14 = 99999999999999

-- ---- the batch as one list: an account file, its groups, behind each group its items; "one row per account file, group and item, in order"

-- Two things that rows may say are not of a batch: `misnumbered` is an item whose reference, which the row has besides, is out of range (document 02,
-- W-206); `strange` is what a row of no known kind says.
pub data Thing : Type 0 where
  a_file : ℕ → ℕ → Thing
  a_group : ℕ → Account → Thing
  an_item : Item → Thing
  misnumbered : Item → Thing
  strange : Thing

-- a group's items, in front of what follows
unfoldable pub item_things : List Item → List Thing → List Thing
item_things [] r = r
item_things (x ∷ xs) r = an_item x ∷ item_things xs r

-- groups, each followed by its items
unfoldable pub group_things : List Group → List Thing → List Thing
group_things [] r = r
group_things (g ∷ gs) r = a_group g.date g.payer ∷ item_things g.items (group_things gs r)

-- account files, each followed by its groups
unfoldable pub things : Batch → List Thing
things [] = []
things (f ∷ fs) = a_file f.kind f.number ∷ group_things f.groups (things fs)

-- the batch that such a list holds, taken together from its end: items not yet in a group, groups not yet in an account file, account files
pub record Heap : Type 0 where
  pub items : List Item
  pub groups : List Group
  pub files : List AccountFile

-- an item goes to the items, a group takes the items behind it, an account file the groups behind it; what is not of a batch is left out
unfoldable pub heap_of : List Thing → Heap
heap_of [] = record { items = []; groups = []; files = [] }
heap_of (an_item x ∷ ts) = let h = heap_of ts in record { items = x ∷ h.items; groups = h.groups; files = h.files }
heap_of (a_group d p ∷ ts) =
    let h = heap_of ts in record { items = []; groups = record { date = d; payer = p; items = h.items } ∷ h.groups; files = h.files }
heap_of (a_file k n ∷ ts) =
    let h = heap_of ts in record { items = []; groups = []; files = record { kind = k; number = n; groups = h.groups } ∷ h.files }
heap_of (misnumbered x ∷ ts) = heap_of ts
heap_of (strange ∷ ts) = heap_of ts

-- the account files of the whole list
unfoldable pub batch_of : List Thing → Batch
batch_of ts = (heap_of ts).files

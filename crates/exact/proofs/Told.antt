-- What a line of each kind says, where it is not refused. Assumes nothing.
use mathlib.Core.Path.{◌≡◌, refl}
use mathlib.Core.List.{List}
use Prim.Native.Nat.{ℕ}
use Rattle.sheet.specs.declared.Sheet.{Sheet}
use Rattle.paper.specs.Batch.{Item, Header}
use Rattle.paper.specs.Accounts.{Account}
use Rattle.paper.specs.Entries.{head, file, group, item, close_group, close_file, Places, Listed, Counted, said, no, counted, Kind, head_line, file_line, group_line, item_line, group_end, file_end, kind_of}
use Rattle.paper.specs.Spells.{Context, read_as, read_line}
use Rattle.paper.proofs.LineSays.{Asked, LineSays, no-header, a_header, a-file, a-group, an-item, a_group_end, a_file_end, refused, says}

-- the line's kind is that of its entry
pub data Told : Kind → Counted → Type 0 where
  of_head : {h : Header} {v : ℕ} {p : Places} → Told head_line (said (head h) v p)
  of_file : {kind number v : ℕ} {p : Places} → Told file_line (said (file kind number) v p)
  of_group : {payer : Account} {total date v : ℕ} {p : Places} → Told group_line (said (group payer total date) v p)
  of_item : {x : Item} {v : ℕ} {p : Places} → Told item_line (said (item x) v p)
  of_group_end : {v : ℕ} {p : Places} → Told group_end (said close_group v p)
  of_file_end : {v : ℕ} {p : Places} → Told file_end (said close_file v p)
  of_none : {kind : Kind} {n off : ℕ} → Told kind (no n off)

-- ---- so an entry tells the kind of its line

pub kind-head : {kind : Kind} {h : Header} {v : ℕ} {p : Places} → Told kind (said (head h) v p) → kind ≡ head_line
kind-head of_head = refl

pub kind-file : {kind : Kind} {a b v : ℕ} {p : Places} → Told kind (said (file a b) v p) → kind ≡ file_line
kind-file of_file = refl

pub kind-group : {kind : Kind} {a : Account} {b d v : ℕ} {p : Places} → Told kind (said (group a b d) v p) → kind ≡ group_line
kind-group of_group = refl

pub kind-item : {kind : Kind} {x : Item} {v : ℕ} {p : Places} → Told kind (said (item x) v p) → kind ≡ item_line
kind-item of_item = refl

pub kind-group-end : {kind : Kind} {v : ℕ} {p : Places} → Told kind (said close_group v p) → kind ≡ group_end
kind-group-end of_group_end = refl

pub kind-file-end : {kind : Kind} {v : ℕ} {p : Places} → Told kind (said close_file v p) → kind ≡ file_end
kind-file-end of_file_end = refl

-- ---- a line that is read as of a kind says an entry of that kind

told-by : {sh : Sheet} {today : ℕ} {a : Asked} {w : List ℕ} {kind : Kind} {r : Listed} → LineSays sh today a w kind r → Told kind (counted r)
unfolding counted
told-by (no-header _) = of_head
told-by (a_header _ _ _ _ _ _ _) = of_head
told-by (a-file _ _ _ _) = of_file
told-by (a-group _ _ _ _ _ _) = of_group
told-by (an-item _ _ _ _ _ _ _ _ _) = of_item
told-by a_group_end = of_group_end
told-by a_file_end = of_file_end
told-by (refused _ _) = of_none

module _ (sh : Sheet) (today : ℕ) (c : Context) where
  pub told : (kind : Kind) (s : List ℕ) → Told kind (counted (read_as sh today c kind s))
  told kind s = told-by (says sh today c kind s)

  -- .. and so does a line
  pub told-line : (s : List ℕ) (r : Counted) → read_line sh today c s ≡ r → Told (kind_of s) r
  unfolding read_line
  told-line s r q = rw q at (told (kind_of s) s)

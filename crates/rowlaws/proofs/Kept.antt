-- What an accepted line says, with its places: an item's texts stand in the line, and its numbers are small. Assumes nothing.
use mathlib.Core.Path.{◌≡◌, refl}
use mathlib.Core.Bool.{Bool, true, false}
use mathlib.Core.List.{List}
use Prim.Native.Nat.{ℕ, ◌<◌}
use lib.ListN.{drop}
use lib.Seq.{take-length}
use Rattle.sheet.specs.declared.Sheet.{Sheet}
use Rattle.sheet.specs.declared.Style.{Style}
use Rattle.paper.specs.Batch.{Item}
use Rattle.paper.specs.Accounts.{Account, read_account, read_payer}
use Rattle.paper.specs.Texts.{Noted}
use Rattle.paper.specs.Entries.{Entry, head, file, group, item, close_group, close_file, Places, Listed, Counted, got, said, no, counted, Kind}
use Rattle.paper.specs.FileLine.{read_file}
use Rattle.paper.specs.GroupLine.{read_group}
use Rattle.paper.specs.ItemLine.{part_bytes, places, read_item}
use Rattle.paper.proofs.LineSays.{Asked, asking, asking_number, Payer, stands, lacks, a_symbol, Text, no-text, a_text, LineSays, no-header, a_header, a-file, a-group, an-item, a_group_end, a_file_end, refused, file-says, group-says, item-says}
use Rattle.numeral.proofs.given.Sound.{symbol-sound}
use Rattle.rowlaws.specs.Places.{Placed}
use Rattle.rowlaws.proofs.Pieces.{text-places}
use Rattle.rowlaws.proofs.Below.{Short, nobody-short, kind-below, number-below, due_below, account-short, payer-short, bank-below}

-- an item that the line w says, with the places of its texts
pub record KeptItem (w : List ℕ) (x : Item) (q : Places) : Type 0 where
  pub payer_is : Short x.payer
  pub payee_is : Short x.payee
  pub bank_is : x.bank < 10000
  pub variable_is : x.variable < 10000000000
  pub specific_is : x.specific < 10000000000
  pub constant_is : x.constant < 10000
  pub priority_is : x.priority < 100
  pub texts : Noted
  pub placed : Placed w texts
  pub parts_are : x.parts ≡ part_bytes texts
  pub name_is : x.name ≡ texts.name.bytes
  pub places_are : q ≡ places texts

-- what a line of an account file, of a group, of an item says, where it is not refused
abbrev KeptAs : List ℕ → Entry → Places → Type 0
KeptAs w (file k n) q = (k < 10000) × (n < 1000000)
KeptAs w (group p t d) q = Short p × (d < 100000000)
KeptAs w (item x) q = KeptItem w x q
KeptAs w (head h) q = Unit {0}
KeptAs w close_group q = Unit {0}
KeptAs w close_file q = Unit {0}

abbrev Kept : List ℕ → Counted → Type 0
Kept w (got t) = KeptAs w t.entry t.places
Kept w (no n off) = Unit {0}

-- ---- from the fields that were read

-- the rest of the line stands in the line
texts-kept : (y : Style) {w : List ℕ} {t : Noted} → Text y w t → Placed w t
texts-kept y no-text = record { four = refl; parts = (refl, (refl, (refl, (refl, tt)))); name = refl }
texts-kept y {w} (a_text at {t} e) = text-places w y at (drop at w) t (take-length (drop at w)) e

payer-kept : (empty allzero joined : Bool) (least : ℕ) {named : Bool} {a : Account} → Payer (read_payer empty allzero joined least) named a → Short a
payer-kept empty allzero joined least (stands {a} f) = payer-short f.0 empty allzero joined least a f.1
payer-kept empty allzero joined least lacks = nobody-short

account-kept : (joined : Bool) (least : ℕ) {named : Bool} {a : Account} → Payer (read_account joined least) named a → Short a
account-kept joined least (stands {a} f) = account-short f.0 joined least a f.1
account-kept joined least lacks = nobody-short

keeps : (sh : Sheet) {today : ℕ} {a : Asked} {w : List ℕ} {kind : Kind} {r : Listed} → LineSays sh today a w kind r → Kept w (counted r)
unfolding counted
keeps sh (no-header _) = tt
keeps sh (a_header _ _ _ _ _ _ _) = tt
keeps sh {a = a} (a-file {kind = k} {number = n} f g _ _) = (kind-below f.0 sh k f.1, number-below g.0 a.number n g.1)
keeps sh {today} {a} (a-group {date = date} _ p _ d _ _) =
    (payer-kept sh.emptypayer sh.zeropayer sh.joined sh.basemin p, due_below d.0 sh.longdate a.here sh.early sh.ahead today date d.1)
keeps sh {a = a} (an-item {payee = payee} {variable = variable} {bank = bank} {texts = texts} _ p f _ v b _ s t) =
    let k = bank-below b.0 sh.priority a.due bank b.1 in
    record {
      payer_is = account-kept sh.joined sh.basemin p;
      payee_is = account-short f.0 sh.joined sh.basemin payee f.1;
      bank_is = k.bank_is;
      variable_is = symbol-sound (a_symbol v);
      specific_is = symbol-sound s;
      constant_is = k.constant_is;
      priority_is = k.priority_is;
      texts = texts;
      placed = texts-kept sh.text t;
      parts_are = refl;
      name_is = refl;
      places_are = refl;
    }
keeps sh a_group_end = tt
keeps sh a_file_end = tt
keeps sh (refused _ _) = tt

-- ---- a line that was read

module _ (sh : Sheet) (w : List ℕ) (v : ℕ) (q : Places) where
  pub kept-file : (test : ℕ → ℕ) (k n : ℕ) → counted (read_file sh test w) ≡ said (file k n) v q → (k < 10000) × (n < 1000000)
  kept-file test k n e = rw e at (keeps sh (file-says sh 0 (asking_number test) w))

  pub kept-group : (today : ℕ) (here : Bool) (p : Account) (t d : ℕ) → counted (read_group sh today here w) ≡ said (group p t d) v q
      → Short p × (d < 100000000)
  kept-group today here p t d e = rw e at (keeps sh (group-says sh today (asking (λ _. 0) here (λ _. true) false) w))

  pub kept-item : (due : ℕ → Bool) (single : Bool) (x : Item) → counted (read_item sh due single w) ≡ said (item x) v q → KeptItem w x q
  kept-item due single x e = rw e at (keeps sh (item-says sh 0 (λ _. 0) false due single w))

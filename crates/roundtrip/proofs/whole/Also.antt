-- A batch whose entries were said by lines, and that keeps the rules over several lines: its rows pass. Assumes nothing.
use mathlib.Core.Path.{◌≡◌, refl}
use mathlib.Core.Bool.{true}
use mathlib.Core.List.{List, [], ◌∷◌}
use Prim.Native.Nat.{ℕ, suc, ◌+◌, ◌≤◌, ◌<◌}
use native.Mathlib.Omega.{arith}
use lib.ListN.{length}
use Rattle.sheet.specs.declared.Sheet.{Sheet}
use Rattle.paper.specs.Accounts.{Account, is_nobody}
use Rattle.paper.specs.Batch.{Item, Group, AccountFile, Header, sum, most14, Thing, a_file, a_group, item_things, group_things, things}
use Rattle.paper.specs.FileLine.{series}
use Rattle.paper.specs.Entries.{file, group}
use Rattle.paper.specs.Proper.{any, file_due, group_due, item_due, may_stop, Before, after_file, after_group, after_item}
use Rattle.paper.specs.Spells.{for_file, for_group, for_item, Due, due, item_dues, group_dues, file_dues, group_items, file_items, GroupRules, FileRules}
use Rattle.roundtrip.proofs.whole.Lines.{Every, Told}
use Rattle.roundtrip.proofs.whole.Good.{placed, Good, end-also, file-also, group-also, item-also}

module _ (sh : Sheet) (today : ℕ) (h : Header) where
  abbrev Tell : List Due → Type 0
  Tell ds = Every (Told sh today) ds

  -- the rows r pass wherever any row may come: behind c account files, n items of the last one, which is of that kind, and m of the file
  abbrev Behind : ℕ → ℕ → ℕ → List ℕ → ℕ → List Thing → Type 0
  Behind c n m seen kind r =
      (date k : ℕ) (b : Before) (a : ℕ) → b.stage ≡ any → b.files ≡ c → b.items ≡ n → a ≡ m → Good sh today h k b (placed a seen kind date) r

  -- `ds` are the entries due behind, r their rows
  module _ (seen : List ℕ) (kind c n m : ℕ) (few : n ≤ 99999) (all_few : m ≤ sh.fileitems) (r : List Thing) (ds : List Due)
      (go : Tell ds → Behind c n m seen kind r) where
    items-also : (date : ℕ) (xs : List Item) (k : ℕ) (b : Before) (a : ℕ) → b.stage ≡ any → b.files ≡ c → b.items + length xs ≡ n
        → a + length xs ≡ m → b.sum + sum xs ≤ most14 → Tell (item_dues (for_item kind date b.single) xs ds)
        → Good sh today h k b (placed a seen kind date) (item_things xs r)
    unfolding item_things item_dues sum item_due
    items-also date [] k b a st fi it al s (_, t) = go t date k b a st fi (omega arith) (omega arith)
    items-also date (x ∷ xs) k b a st fi it al s (f, t) =
        item-also sh today h k b (placed a seen kind date) x (item_things xs r) (rw st refl) (omega arith) (omega arith) (omega arith) f
        (items-also date xs (suc k) (after_item b x) (suc a) refl fi (omega arith) (omega arith) (omega arith) t)

    -- a group, of one item or more
    one-group : (day date : ℕ) (payer : Account) (xs : List Item) (k : ℕ) (b : Before) (a : ℕ) → group_due b.stage ≡ true → b.files ≡ c
        → b.items + length xs ≡ n → a + length xs ≡ m → 1 ≤ length xs → sum xs ≤ most14
        → Tell (due (for_group kind) (group payer (sum xs) date) ∷ item_dues (for_item kind date (is_nobody payer)) xs ds)
        → Good sh today h k b (placed a seen kind day) (a_group date payer ∷ item_things xs r)
    unfolding item_things item_dues sum item_due
    one-group day date payer [] k b a st fi it al some s t = absurd (omega arith)
    one-group day date payer (x ∷ xs) k b a st fi it al some s ((total, g), (f, t)) =
        group-also sh today h k b (placed a seen kind day) date payer _ st total g
        (item-also sh today h (suc k) (after_group b payer) (placed a seen kind date) x (item_things xs r) refl (omega arith) (omega arith) (omega arith) f
        (items-also date xs (suc (suc k)) (after_item (after_group b payer) x) (suc a) refl fi (omega arith) (omega arith) (omega arith) t))

  module _ (seen : List ℕ) (kind c n m : ℕ) (few : n ≤ 99999) (all_few : m ≤ sh.fileitems) (r : List Thing) (ds : List Due)
      (go : Tell ds → Behind c n m seen kind r) where
    groups-also : (day : ℕ) (gs : List Group) (k : ℕ) (b : Before) (a : ℕ) → b.stage ≡ any → b.files ≡ c → b.items + group_items gs ≡ n
        → a + group_items gs ≡ m → GroupRules gs → Tell (group_dues kind gs ds) → Good sh today h k b (placed a seen kind day) (group_things gs r)
    unfolding group_things group_dues group_items group_due
    groups-also day [] k b a st fi it al q (_, t) = go t day k b a st fi (omega arith) (omega arith)
    groups-also day (g ∷ gs) k b a st fi it al (some, s, q) t =
        one-group seen kind c (b.items + length g.items) (a + length g.items) (omega arith) (omega arith) (group_things gs r) (group_dues kind gs ds)
        (λ u then j d e st' fi' it' al'. groups-also then gs j d e st' fi' (omega arith) (omega arith) q u)
        day g.date g.payer g.items k b a (rw st refl) fi refl refl some s t

    -- the groups of an account file, one or more
    some-groups : (day : ℕ) (gs : List Group) (k : ℕ) (b : Before) (a : ℕ) → group_due b.stage ≡ true → b.files ≡ c → b.items + group_items gs ≡ n
        → a + group_items gs ≡ m → 1 ≤ length gs → GroupRules gs → Tell (group_dues kind gs ds)
        → Good sh today h k b (placed a seen kind day) (group_things gs r)
    unfolding group_things group_dues group_items
    some-groups day [] k b a st fi it al some q t = absurd (omega arith)
    some-groups day (g ∷ gs) k b a st fi it al _ (some, s, q) t =
        one-group seen kind c (b.items + length g.items) (a + length g.items) (omega arith) (omega arith) (group_things gs r) (group_dues kind gs ds)
        (λ u then j d e st' fi' it' al'. groups-also then gs j d e st' fi' (omega arith) (omega arith) q u)
        day g.date g.payer g.items k b a st fi refl refl some s t

  -- an account file, and the rows behind it
  one-file : (before day : ℕ) (seen : List ℕ) (kind number : ℕ) (gs : List Group) (r : List Thing) (ds : List Due) (k : ℕ) (b : Before) (a : ℕ)
      → file_due b.stage ≡ true → b.files < 1000 → a + group_items gs ≤ sh.fileitems → 1 ≤ length gs → group_items gs ≤ 99999 → GroupRules gs
      → (Tell ds → Behind (b.files + 1) (group_items gs) (a + group_items gs) (series number ∷ seen) kind r)
      → Tell (due (for_file h seen) (file kind number) ∷ group_dues kind gs ds)
      → Good sh today h k b (placed a seen before day) (a_file kind number ∷ group_things gs r)
  unfolding group_due
  one-file before day seen kind number gs r ds k b a st free all_few some few q go (f, t) =
      file-also sh today h k b (placed a seen before day) kind number (group_things gs r) st free f
      (some-groups (series number ∷ seen) kind (b.files + 1) (group_items gs) (a + group_items gs) few all_few r ds go 0 gs (suc k) (after_file b) a
      refl refl (omega arith) refl some q t)

  files-also : (kind day : ℕ) (seen : List ℕ) (fs : List AccountFile) (k : ℕ) (b : Before) (a : ℕ) → b.stage ≡ any → b.files + length fs ≤ 1000
      → a + file_items fs ≤ sh.fileitems → FileRules fs → Tell (file_dues h seen fs) → Good sh today h k b (placed a seen kind day) (things fs)
  unfolding things file_dues file_items file_due may_stop
  files-also kind day seen [] k b a st c al q t = end-also sh today h k b (placed a seen kind day) (rw st refl)
  files-also kind day seen (f ∷ fs) k b a st c al (some, few, g, q) t =
      one-file kind day seen f.kind f.number f.groups (things fs) (file_dues h (series f.number ∷ seen) fs) k b a
      (rw st refl) (omega arith) (omega arith) some few g
      (λ u then j d e st' fi' it' al'. files-also f.kind then (series f.number ∷ seen) fs j d e st' (omega arith) (omega arith) q u)
      t

  -- the account files of a batch, one or more
  pub some-files : (kind day : ℕ) (seen : List ℕ) (fs : List AccountFile) (k : ℕ) (b : Before) (a : ℕ) → file_due b.stage ≡ true → 1 ≤ length fs
      → b.files + length fs ≤ 1000 → a + file_items fs ≤ sh.fileitems → FileRules fs → Tell (file_dues h seen fs)
      → Good sh today h k b (placed a seen kind day) (things fs)
  unfolding things file_dues file_items
  some-files kind day seen [] k b a st some c al q t = absurd (omega arith)
  some-files kind day seen (f ∷ fs) k b a st _ c al (some, few, g, q) t =
      one-file kind day seen f.kind f.number f.groups (things fs) (file_dues h (series f.number ∷ seen) fs) k b a
      st (omega arith) (omega arith) some few g
      (λ u then j d e st' fi' it' al'. files-also f.kind then (series f.number ∷ seen) fs j d e st' (omega arith) (omega arith) q u)
      t

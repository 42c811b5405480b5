-- The numbers of the machine stay small: they are so before the first line, and each line keeps them so. Assumes nothing.
use mathlib.Core.Path.{◌≡◌, sym}
use mathlib.Core.Bool.{true, false}
use Prim.Native.Nat.{ℕ, ◌+◌, ◌≤◌, ◌<◌}
use native.Mathlib.Omega.{arith}
use lib.Dec.{eqb, leb}
use borrow.Author.Tests.{leb-false, eqb-false}
use Rattle.base.specs.Pick.{pick}
use Rattle.base.proofs.Cases.{by-test, either}
use Rattle.base.proofs.Seek.{never}
use Rattle.sheet.specs.declared.Sheet.{Sheet}
use Rattle.sheet.proofs.Laws.{Sane}
use Rattle.paper.specs.Lines.{Line}
use Rattle.paper.specs.Accounts.{Account}
use Rattle.paper.specs.Batch.{Item, Header}
use Rattle.paper.specs.Entries.{head, file, group, item, close_group, close_file, Places, saying, Counted, Kind, file_line, item_line, group_end, kind_of, on_head, on_file, on_group, on_item, on_entry}
use Rattle.paper.specs.Spells.{differs}
use Rattle.tally.specs.Tally.{Book, Shelf, Open, Tally, t_first, t_file, t_group, t_item, t_stop, No, warned, group_more, context_of, is_due, is_full, closed, meet, on_said, read, step}
use Rattle.tally.specs.Small.{SmallFile, SmallGroup, SmallItem, Small, Limits}
use Rattle.tally.proofs.Light.{Light, a-head, a-file, a-group, an-item, a_group_end, a_file_end, refused, line-light}

-- a line that is refused
small-stop : (n l p : ℕ) → Small (t_stop (No n l p))
unfolding Small
small-stop n l p = tt

pub differs-one : (t s : ℕ) → differs t s ≤ 1
unfolding differs pick
differs-one t s = by-test (eqb t s) (λ e. simp e (omega arith)) (λ e. simp e (omega arith))

-- ---- what the tests before a line's fields leave

-- room for an account file, and for an item
file-room : (sh : Sheet) (b : Book) (kind : Kind) → is_full sh (t_file b) kind ≡ false → b.files < 1000
unfolding is_full
file-room sh b kind e = leb-false 1000 b.files e

item_room : (sh : Sheet) (b : Book) (s : Shelf) (o : Open) → is_full sh (t_item b s o) item_line ≡ false → s.items < 99999
unfolding is_full pick
item_room sh b s o e = by-test (leb 99999 s.items) (λ t. never (simp t at e)) (λ t. leb-false 99999 s.items t)

-- an item or more in a group that is closed
some_item : (b : Book) (s : Shelf) (o : Open) → is_due (t_item b s o) group_end ≡ true → 0 < o.count
unfolding is_due pick
some_item b s o e = by-test (eqb o.count 0) (λ t. never (sym (simp t at e))) (λ t. omega (arith, eqb-false o.count 0 t))

-- ---- one line

closed-small : (sh : Sheet) (b : Book) (s : Shelf) (o : Open) → 0 < o.count → SmallItem b s o → Small (closed sh b s o 0)
unfolding closed Small
closed-small sh b s o some small = either Small _ (λ _. tt) (λ _. go)
  where
    go : SmallGroup (warned b (0 + differs o.total o.sum)) (group_more s)
    go =
        record {
          files = small.files;
          items = small.items;
          rows = omega arith;
          warnings = omega (arith, differs-one o.total o.sum);
          shelf = small.shelf;
          groups = omega arith;
        }

module _ (sh : Sheet) (k at : ℕ) (p : Places) where
  head_small : (h : Header) (c : Tally) → Small (meet sh k at (saying (head h) 0 p) c)
  unfolding meet on_entry on_head on_file on_group on_item Small
  head_small h t_first = record { files = omega arith; items = omega arith; rows = omega arith; warnings = omega arith }
  head_small h (t_file b) = tt
  head_small h (t_group b s) = tt
  head_small h (t_item b s o) = tt
  head_small h (t_stop a) = tt

  file-small : (n m : ℕ) (c : Tally) → is_full sh c file_line ≡ false → Small c → Small (meet sh k at (saying (file n m) 0 p) c)
  unfolding meet on_entry on_head on_file on_group on_item Small
  file-small n m t_first room small = tt
  file-small n m (t_file b) room small =
      let some : b.files < 1000 = file-room sh b file_line room in
      record { files = omega arith; items = omega arith; rows = omega arith; warnings = omega arith; shelf = omega arith; groups = omega arith }
  file-small n m (t_group b s) room small = tt
  file-small n m (t_item b s o) room small = tt
  file-small n m (t_stop a) room small = tt

  group-small : (y : Account) (t d v : ℕ) (c : Tally) → v ≤ 1 → Small c → Small (meet sh k at (saying (group y t d) v p) c)
  unfolding meet on_entry on_head on_file on_group on_item Small
  group-small y t d v t_first one small = tt
  group-small y t d v (t_file b) one small = tt
  group-small y t d v (t_group b s) one small =
      record {
        files = small.files;
        items = small.items;
        rows = omega arith;
        warnings = omega arith;
        shelf = small.shelf;
        groups = omega arith;
        sum = omega arith;
      }
  group-small y t d v (t_item b s o) one small = tt
  group-small y t d v (t_stop a) one small = tt

  item-small : (x : Item) (v : ℕ) (c : Tally) → v ≤ 6 → x.amount ≤ 99999999999999 → is_full sh c item_line ≡ false → Small c
      → Small (meet sh k at (saying (item x) v p) c)
  unfolding meet on_entry on_head on_file on_group on_item Small
  item-small x v t_first six most room small = tt
  item-small x v (t_file b) six most room small = tt
  item-small x v (t_group b s) six most room small = tt
  item-small x v (t_item b s o) six most room small =
      let some : s.items < 99999 = item_room sh b s o room in
      record {
        files = small.files;
        items = omega arith;
        rows = omega arith;
        warnings = omega arith;
        shelf = omega arith;
        groups = omega arith;
        sum = omega arith;
      }
  item-small x v (t_stop a) six most room small = tt

  group-end-small : (c : Tally) → is_due c group_end ≡ true → Small c → Small (meet sh k at (saying close_group 0 p) c)
  unfolding meet on_entry on_head on_file on_group on_item Small
  group-end-small t_first due small = tt
  group-end-small (t_file b) due small = tt
  group-end-small (t_group b s) due small = tt
  group-end-small (t_item b s o) due small = closed-small sh b s o (some_item b s o due) small
  group-end-small (t_stop a) due small = tt

  file-end-small : (c : Tally) → Small c → Small (meet sh k at (saying close_file 0 p) c)
  unfolding meet on_entry on_head on_file on_group on_item Small
  file-end-small t_first small = tt
  file-end-small (t_file b) small = tt
  file-end-small (t_group b s) small =
      record { files = small.files; items = omega arith; rows = small.rows; warnings = omega arith }
  file-end-small (t_item b s o) small = tt
  file-end-small (t_stop a) small = tt

said-small : (sh : Sheet) (k at : ℕ) {kind : Kind} {r : Counted} (c : Tally) → Light kind r → is_due c kind ≡ true → is_full sh c kind ≡ false → Small c
    → Small (on_said sh k at r c)
unfolding on_said
said-small sh k at c a-head due room small = head_small sh k at _ _ c
said-small sh k at c a-file due room small = file-small sh k at _ _ _ c room small
said-small sh k at c (a-group one) due room small = group-small sh k at _ _ _ _ _ c one small
said-small sh k at c (an-item six most) due room small = item-small sh k at _ _ _ c six most room small
said-small sh k at c a_group_end due room small = group-end-small sh k at _ c due small
said-small sh k at c a_file_end due room small = file-end-small sh k at _ c small
said-small sh k at c refused due room small = small-stop _ _ _

module _ (sh : Sheet) (sane : Sane sh) (today k : ℕ) (t : Line) where
  read_small : (kind : Kind) (c : Tally) → Small c → Small (read sh today k t kind c)
  unfolding read
  read_small kind c small =
      either Small (is_due c kind)
      (λ due.
      either Small (is_full sh c kind)
      (λ _. small-stop _ _ _)
      (λ room. said-small sh k t.start c (line-light sh sane today (context_of c) kind t.bytes) due room small))
      (λ _. small-stop _ _ _)

  pub small-step : (c : Tally) → Small c → Small (step sh today k t c)
  unfolding step
  small-step t_first small = read_small (kind_of t.bytes) t_first small
  small-step (t_file b) small = read_small (kind_of t.bytes) (t_file b) small
  small-step (t_group b s) small = read_small (kind_of t.bytes) (t_group b s) small
  small-step (t_item b s o) small = read_small (kind_of t.bytes) (t_item b s o) small
  small-step (t_stop a) small = small

-- ---- in plain numbers: no count and no sum comes near 2 ^ 64

pub file-limits : (b : Book) → SmallFile b → Limits b
file-limits b small = record { files = small.files; items = omega arith; rows = omega arith; warnings = omega arith }

pub item-limits : (b : Book) (s : Shelf) (o : Open) → SmallItem b s o → Limits b
item-limits b s o small = record { files = small.files; items = omega arith; rows = omega arith; warnings = omega arith }

-- Rows of a batch that pass: every entry that is due fits, and the rules over several lines hold. Assumes nothing.
use mathlib.Core.Path.{◌≡◌, refl, ◌∙◌}
use mathlib.Core.List.{List, [], ◌∷◌}
use Prim.Native.Nat.{ℕ, suc, ◌+◌, ◌≤◌, max}
use native.Mathlib.Omega.{arith}
use lib.ListN.{length}
use Rattle.sheet.specs.declared.Sheet.{Sheet}
use Rattle.paper.specs.Accounts.{Account}
use Rattle.paper.specs.Batch.{Item, Group, AccountFile, Header, sum, most14, Thing, item_things, group_things, things}
use Rattle.paper.specs.FileLine.{series}
use Rattle.paper.specs.Proper.{Before, after_file, after_group, after_item}
use Rattle.paper.specs.Carried.{Place}
use Rattle.paper.specs.Spells.{for_item, Due, item_dues, group_dues, file_dues, group_items, file_items, GroupRules, FileRules}
use Rattle.roundtrip.specs.linesound.Fits.{Fits}
use Rattle.roundtrip.proofs.whole.Lines.{Every}
use Rattle.roundtrip.proofs.whole.Good.{placed, Good, file-only, group-only, item-only, none-item, none-group}

module _ (sh : Sheet) (today : ℕ) (h : Header) where
  abbrev Fit : List Due → Type 0
  Fit ds = Every (Fits sh today) ds

  -- n items passed, and the rows r behind them pass too, in the same account file
  record Left (b : Before) (m n : ℕ) (seen : List ℕ) (kind : ℕ) (r : List Thing) : Type 0 where
    row : ℕ
    after : Before
    count : ℕ
    day : ℕ
    same_files : after.files ≡ b.files
    more : after.items ≡ b.items + n
    all_more : count ≡ m + n
    few : b.items + n ≤ max b.items 99999
    all_few : m + n ≤ max m sh.fileitems
    good : Good sh today h row after (placed count seen kind day) r

  -- none passed
  none : (k : ℕ) (b : Before) (m : ℕ) (seen : List ℕ) (kind date : ℕ) (r : List Thing)
      → Good sh today h k b (placed m seen kind date) r → Left b m 0 seen kind r
  none k b m seen kind date r g =
      record {
        row = k;
        after = b;
        count = m;
        day = date;
        same_files = refl;
        more = omega arith;
        all_more = omega arith;
        few = omega arith;
        all_few = omega arith;
        good = g;
      }

  items-only : (kind date : ℕ) (seen : List ℕ) (xs : List Item) (r : List Thing) (k : ℕ) (b : Before) (m : ℕ)
      → Good sh today h k b (placed m seen kind date) (item_things xs r)
      → Left b m (length xs) seen kind r × (b.sum + sum xs ≤ max b.sum most14)
      × ((ds : List Due) → Fit ds → Fit (item_dues (for_item kind date b.single) xs ds))
  unfolding item_things item_dues sum
  items-only kind date seen [] r k b m g = (
    none k b m seen kind date _ g,
    omega arith,
    λ ds e. (tt, e),
  )
  items-only kind date seen (x ∷ xs) r k b m g =
      let (i, s, a, f, rest) = item-only sh today h k b (placed m seen kind date) x (item_things xs r) g in
      let (l, t, u) = items-only kind date seen xs r (suc k) (after_item b x) (suc m) rest in (
        record {
          row = l.row;
          after = l.after;
          count = l.count;
          day = l.day;
          same_files = l.same_files;
          more = omega (arith, l.more);
          all_more = omega (arith, l.all_more);
          few = omega (arith, l.few);
          all_few = omega (arith, l.all_few);
          good = l.good;
        },
        omega arith,
        λ ds e. (f, u ds e),
      )

  items-some : (xs : List Item) (gs : List Group) (fs : List AccountFile) (k : ℕ) (b : Before) (payer : Account) (p : Place)
      → Good sh today h k (after_group b payer) p (item_things xs (group_things gs (things fs))) → 1 ≤ length xs
  unfolding item_things
  items-some [] gs fs k b payer p g = absurd (none-item sh today h k (after_group b payer) p gs fs refl g)
  items-some (x ∷ xs) gs fs k b payer p g = omega arith

  groups-only : (kind date : ℕ) (seen : List ℕ) (gs : List Group) (fs : List AccountFile) (k : ℕ) (b : Before) (m : ℕ)
      → Good sh today h k b (placed m seen kind date) (group_things gs (things fs))
      → Left b m (group_items gs) seen kind (things fs) × GroupRules gs × ((ds : List Due) → Fit ds → Fit (group_dues kind gs ds))
  unfolding group_things group_dues group_items
  groups-only kind date seen [] fs k b m g = (
    none k b m seen kind date _ g,
    tt,
    λ ds e. (tt, e),
  )
  groups-only kind date seen (g ∷ gs) fs k b m i =
      let (d, f, rest) = group-only sh today h k b (placed m seen kind date) g.date g.payer (item_things g.items (group_things gs (things fs))) i in
      let (l, s, u) = items-only kind g.date seen g.items (group_things gs (things fs)) (suc k) (after_group b g.payer) m rest in
      let (n, r, v) = groups-only kind l.day seen gs fs l.row l.after l.count l.good in
      let small : sum g.items ≤ most14 = omega arith in (
        record {
          row = n.row;
          after = n.after;
          count = n.count;
          day = n.day;
          same_files = n.same_files ∙ l.same_files;
          more = omega (arith, l.more, n.more);
          all_more = omega (arith, l.all_more, n.all_more);
          few = omega (arith, l.few, l.more, n.few);
          all_few = omega (arith, l.all_few, l.all_more, n.all_few);
          good = n.good;
        },
        (items-some g.items gs fs (suc k) b g.payer (placed m seen kind g.date) rest, small, r),
        λ ds e. (f (sum g.items) small, u (group_dues kind gs ds) (v ds e)),
      )

  groups-some : (gs : List Group) (fs : List AccountFile) (k : ℕ) (b : Before) (p : Place)
      → Good sh today h k (after_file b) p (group_things gs (things fs)) → 1 ≤ length gs
  unfolding group_things
  groups-some [] fs k b p g = absurd (none-group sh today h k (after_file b) p fs refl g)
  groups-some (x ∷ gs) fs k b p g = omega arith

  -- behind an account file of any kind and a group of any day
  pub files-only : (kind date : ℕ) (seen : List ℕ) (fs : List AccountFile) (k : ℕ) (b : Before) (m : ℕ)
      → Good sh today h k b (placed m seen kind date) (things fs)
      → FileRules fs × (b.files + length fs ≤ max b.files 1000) × (m + file_items fs ≤ max m sh.fileitems) × Fit (file_dues h seen fs)
  unfolding things file_dues file_items
  files-only kind date seen [] k b m g = (tt, omega arith, omega arith, tt)
  files-only kind date seen (f ∷ fs) k b m g =
      let others = series f.number ∷ seen in
      let (d, n, e, rest) = file-only sh today h k b (placed m seen kind date) f.kind f.number (group_things f.groups (things fs)) g in
      let (l, r, u) = groups-only f.kind 0 others f.groups fs (suc k) (after_file b) m rest in
      let (q, a, c, v) = files-only f.kind l.day others fs l.row l.after l.count l.good in (
        (groups-some f.groups fs (suc k) b (placed m others f.kind 0) rest, omega (arith, l.few), r, q),
        omega (arith, l.same_files),
        omega (arith, l.all_few, l.all_more),
        (e, u (file_dues h others fs) v),
      )

-- What a row has that leads on: it may come here, and its fields passed. Assumes nothing.
use mathlib.Core.Path.{◌≡◌, refl, sym, ap, ◌∙◌}
use mathlib.Core.Bool.{Bool, true, false}
use mathlib.Core.List.{List, [], ◌∷◌}
use Prim.Native.Nat.{ℕ, ◌+◌, ◌≤◌}
use native.Mathlib.Omega.{arith}
use lib.Dec.{ltb}
use borrow.Author.Tests.{ltb-true, leb-true}
use Rattle.base.specs.Pick.{pick}
use Rattle.base.proofs.Cases.{by-test, pick-both}
use Rattle.paper.specs.Days.{real_day}
use Rattle.paper.specs.Accounts.{Account}
use Rattle.paper.specs.Batch.{Item, Thing, a_file, a_group, an_item, misnumbered, strange, most14}
use Rattle.paper.specs.Proper as paper
use Rattle.paper.specs.Proper.{Verdict, fine, wrong, check, may_stop, file_due, group_due, item_due, kind_proper, payer_proper, parts_from, item_proper, item_stands, rows_proper}
use Rattle.paper.specs.Rows.{reference_proper}
use Rattle.paper.proofs.Verdicts.{check-only}
use Rattle.rows.specs.declared.read.ItemRow.{ItemRow}
use Rattle.rows.specs.declared.walk.Before.{Before}
use Rattle.std.proofs.Common.{Result, Ok}
use Rattle.rows.specs.declared.field.Field.{Field}
use Rattle.rows.specs.read.Told.{item_of, told_item}
use Rattle.rows.specs.walk.Walks.{before_of, behind, Walks, FilePassed, GroupPassed, ItemPassed}
use Rattle.rows.proofs.proper.Laws.{item-sized}

-- a test of a row behind which another is missing: the first that is wrong stands in the next row
past : (n : ℕ) (ok : Bool) (rest : Verdict) → wrong 1 0 ≡ check 0 n ok rest → (ok ≡ true) × (wrong 1 0 ≡ rest)
unfolding check pick
past n true rest e = (refl, e)
past n false rest e = absurd (let z : ◌≡◌ {A = ℕ} 0 1 = cc in omega arith)

past-parts : (n : ℕ) (ps : List (List ℕ)) (rest : Verdict) → wrong 1 0 ≡ parts_from 0 n ps rest → wrong 1 0 ≡ rest
unfolding parts_from
past-parts n [] rest e = e
past-parts n (p ∷ ps) rest e = past-parts (n + 2) ps rest (past n _ _ e).1

past-item : (single : Bool) (sum : ℕ) (x : Item) (rest : Verdict) → wrong 1 0 ≡ item_proper 0 single sum x rest → wrong 1 0 ≡ rest
unfolding item_proper
past-item single sum x rest e =
    let payee = (past 3 _ _ (past 1 _ _ e).1).1 in
    let amount = (past 6 _ _ (past 5 _ _ payee).1).1 in
    let specific = (past 8 _ _ (past 7 _ _ amount).1).1 in
    let priority = (past 10 _ _ (past 9 _ _ specific).1).1 in
    (past 19 _ _ (past-parts 11 x.parts _ priority)).1

module _ (b next : Before) where
  -- where the row is the last
  last : (t : Thing) → Walks b t (Ok next) → rows_proper 1 (behind (before_of b) t) [] ≡ rows_proper 0 (before_of b) (t ∷ [])
  last t w = ap (λ p. rows_proper 1 p []) (sym w.leads) ∙ w.same 0 []

  file-last : (kind number : ℕ) → Walks b (a_file kind number) (Ok next)
      → wrong 1 0 ≡ check 0 0 (pick (file_due (before_of b).stage) (ltb b.files 1000) false) (check 0 1 (kind_proper kind) (check 0 2 (ltb number 1000000) (wrong 1 0)))
  unfolding rows_proper may_stop check pick
  file-last kind number w = last (a_file kind number) w

  pub file-passed : (kind number : ℕ) → Walks b (a_file kind number) (Ok next) → FilePassed (before_of b) number
  file-passed kind number w =
      let place = past 0 _ _ (file-last kind number w) in
      let (due, few) = pick-both _ _ place.0 in
      record { due = due; few = ltb-true _ _ few; small = ltb-true _ _ (past 2 _ _ (past 1 _ _ place.1).1).0 }

  group-last : (date : ℕ) (payer : Account) → Walks b (a_group date payer) (Ok next)
      → wrong 1 0 ≡ check 0 0 (group_due (before_of b).stage) (check 0 1 (real_day date) (check 0 2 (payer_proper payer) (wrong 1 0)))
  unfolding rows_proper may_stop check pick
  group-last date payer w = last (a_group date payer) w

  pub group-passed : (date : ℕ) (payer : Account) → Walks b (a_group date payer) (Ok next) → GroupPassed (before_of b) date
  group-passed date payer w = let place = past 0 _ _ (group-last date payer w) in record { due = place.0; day = (past 1 _ _ place.1).0 }

  item-last : (x : Item) → Walks b (an_item x) (Ok next)
      → check 0 0 (pick (item_due (before_of b).stage) (ltb b.items 99999) false) (item_proper 0 b.single b.sum x fine) ≡ fine
  unfolding rows_proper may_stop check pick
  item-last x w = sym (last (an_item x) w)

  pub item-passed : (texts : List ℕ) (x : ItemRow) → Walks b (an_item (item_of texts x)) (Ok next) → ItemPassed (before_of b) texts x
  item-passed texts x w =
      let place = check-only 0 0 _ _ (item-last (item_of texts x) w) in
      let (due, few) = pick-both _ _ place.0 in
      record { due = due; few = ltb-true _ _ few; sized = (item-sized texts x b.single b.sum 0 fine place.1).0 }

  -- ---- what stands behind it

  item-sum : (x : Item) → item_proper 0 b.single b.sum x fine ≡ fine → b.sum + x.amount ≤ most14
  unfolding item_proper
  item-sum x e =
      let payee = check-only 0 3 _ _ (check-only 0 1 _ _ e).1 in
      let amount = check-only 0 6 _ _ (check-only 0 5 _ _ payee.1).1 in
      leb-true _ _ (pick-both _ _ amount.0).1

  -- no row that is none of a batch leads on: it would be the one that is wrong, and not the next
  never-strange : {A : Type 0} → Walks b strange (Ok next) → A
  unfolding rows_proper
  never-strange w =
      let e : wrong 1 0 ≡ wrong 0 0 = w.same 0 (strange ∷ []) in
      absurd (let z : ◌≡◌ {A = ℕ} 0 1 = cc in omega arith)

  never-misnumbered : {A : Type 0} (x : Item) → Walks b (misnumbered x) (Ok next) → A
  unfolding rows_proper
  never-misnumbered x w =
      let f : wrong 1 0 ≡ item_stands 0 (before_of b) x (wrong 0 21) = w.same 0 (strange ∷ []) in
      let e : wrong 1 0 ≡ wrong 0 21 = past-item b.single b.sum x (wrong 0 21) (past 0 _ _ f).1 in
      absurd (let z : ◌≡◌ {A = ℕ} 0 1 = cc in omega arith)

  -- so an item's row that leads on has a reference in range
  pub item-told : (texts : List ℕ) (x : ItemRow) → Walks b (told_item texts x) (Ok next) → told_item texts x ≡ an_item (item_of texts x)
  unfolding pick
  item-told texts x w =
      by-test (reference_proper x.reference)
      (λ e. rw e)
      (λ e. never-misnumbered (item_of texts x) (rw e at w))

  -- a group's sum has at most 14 digits
  pub walk-sum : (t : Thing) → Walks b t (Ok next) → next.sum ≤ most14
  walk-sum (a_file kind number) w = omega (arith, ap (λ (p : paper.Before). p.sum) w.leads)
  walk-sum (a_group date payer) w = omega (arith, ap (λ (p : paper.Before). p.sum) w.leads)
  walk-sum (an_item x) w = omega (arith, ap (λ (p : paper.Before). p.sum) w.leads, item-sum x (check-only 0 0 _ _ (item-last x w)).1)
  walk-sum (misnumbered x) w = never-misnumbered x w
  walk-sum strange w = never-strange w

-- as the code knows it
pub walks-on : (b : Before) (t : Thing) (r : Result Before Field) → Walks b t r → (next : Before) → r ≡ Ok next → Walks b t (Ok next)
walks-on b t r w next e = rw e at w

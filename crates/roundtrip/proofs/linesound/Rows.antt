-- Rows that pass from some row on, taken one at a time. Assumes nothing.
use mathlib.Core.Path.{◌≡◌}
use mathlib.Core.Bool.{true, false}
use mathlib.Core.List.{List, [], ◌∷◌}
use Prim.Native.Nat.{ℕ, suc, ◌+◌, ◌≤◌, ◌<◌}
use native.Mathlib.Omega.{arith}
use lib.Dec.{ltb}
use borrow.Author.Tests.{ltb-true, leb-true}
use Rattle.base.specs.Pick.{pick}
use Rattle.base.proofs.Cases.{pick-both}
use Rattle.paper.specs.Days.{real_day}
use Rattle.paper.specs.Accounts.{Account}
use Rattle.paper.specs.Batch.{Item, Thing, a_file, a_group, an_item, misnumbered, strange, most14}
use Rattle.paper.specs.Proper.{file_due, group_due, item_due, may_stop, Before, fine, after_file, after_group, after_item, kind_proper, payer_proper, item_proper, rows_proper}
use Rattle.paper.proofs.Verdicts.{check-only}
use Rattle.roundtrip.proofs.linesound.Items.{proper-rest, proper-sum}

module _ (k : ℕ) (b : Before) where
  pub end-proper : rows_proper k b [] ≡ fine → may_stop b.stage ≡ true
  unfolding rows_proper
  end-proper e = (check-only k 0 (may_stop b.stage) fine e).0

  pub file-proper : (kind number : ℕ) (ts : List Thing) → rows_proper k b (a_file kind number ∷ ts) ≡ fine
      → (file_due b.stage ≡ true) × (b.files < 1000) × (kind_proper kind ≡ true) × (number < 1000000) × (rows_proper (suc k) (after_file b) ts ≡ fine)
  unfolding rows_proper
  file-proper kind number ts e =
      let (p0, p1) = check-only k 0 (pick (file_due b.stage) (ltb b.files 1000) false) _ e in
      let (p2, p3) = check-only k 1 (kind_proper kind) _ p1 in
      let (p4, p5) = check-only k 2 (ltb number 1000000) _ p3 in
      let (d, few) = pick-both (file_due b.stage) (ltb b.files 1000) p0 in
      (d, ltb-true b.files 1000 few, p2, ltb-true number 1000000 p4, p5)

  pub group-proper : (date : ℕ) (payer : Account) (ts : List Thing) → rows_proper k b (a_group date payer ∷ ts) ≡ fine
      → (group_due b.stage ≡ true) × (real_day date ≡ true) × (payer_proper payer ≡ true) × (rows_proper (suc k) (after_group b payer) ts ≡ fine)
  unfolding rows_proper
  group-proper date payer ts e =
      let (p0, p1) = check-only k 0 (group_due b.stage) _ e in
      let (p2, p3) = check-only k 1 (real_day date) _ p1 in
      let (p4, p5) = check-only k 2 (payer_proper payer) _ p3 in
      (p0, p2, p4, p5)

  pub item-proper : (x : Item) (ts : List Thing) → rows_proper k b (an_item x ∷ ts) ≡ fine
      → (item_due b.stage ≡ true) × (b.items < 99999) × (b.sum + x.amount ≤ most14)
      × (item_proper k b.single b.sum x (rows_proper (suc k) (after_item b x) ts) ≡ fine) × (rows_proper (suc k) (after_item b x) ts ≡ fine)
  unfolding rows_proper
  item-proper x ts e =
      let after = rows_proper (suc k) (after_item b x) ts in
      let (p0, p1) = check-only k 0 (pick (item_due b.stage) (ltb b.items 99999) false) (item_proper k b.single b.sum x after) e in
      let (d, few) = pick-both (item_due b.stage) (ltb b.items 99999) p0 in (
        d,
        ltb-true b.items 99999 few,
        leb-true (b.sum + x.amount) most14 (proper-sum k b.single b.sum x after p1),
        p1,
        proper-rest k b.single b.sum x after p1,
      )

  pub misnumbered-proper : (x : Item) (ts : List Thing) → rows_proper k b (misnumbered x ∷ ts) ≡ fine → ⊥
  unfolding rows_proper
  misnumbered-proper x ts e =
      let q = proper-rest k b.single b.sum x _ (check-only k 0 _ _ e).1 in
      let z : ◌≡◌ {A = ℕ} 0 1 = cc in
      omega arith

  pub strange-proper : (ts : List Thing) → rows_proper k b (strange ∷ ts) ≡ fine → ⊥
  unfolding rows_proper
  strange-proper ts e = let z : ◌≡◌ {A = ℕ} 0 1 = cc in omega arith

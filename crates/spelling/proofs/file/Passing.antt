-- Rows that passed, one at a time: what is known of each, and that those behind it passed. Assumes nothing.
use mathlib.Core.Path.{◌≡◌}
use mathlib.Core.List.{List, ◌∷◌}
use Prim.Native.Nat.{ℕ, suc, ◌≤◌}
use native.Mathlib.Omega.{arith}
use Rattle.base.specs.Pick.{pick}
use Rattle.base.proofs.Cases.{by-test}
use Rattle.paper.specs.Accounts.{Account}
use Rattle.paper.specs.Batch.{Thing, a_file, a_group, an_item, misnumbered, strange, most14}
use Rattle.paper.specs.Proper.{at_top, fine, batch_proper, after_file, after_group, after_item}
use Rattle.paper.specs.Rows.{reference_proper, things_in}
use Rattle.roundtrip.proofs.linesound.Rows.{file-proper, group-proper, item-proper, misnumbered-proper, strange-proper}
use Rattle.roundtrip.specs.flat.Flat.{group_sum}
use Rattle.roundtrip.proofs.flat.Order.{sum-small, proper-ordered}
use Rattle.rows.specs.declared.read.ItemRow.{ItemRow}
use Rattle.rows.specs.read.Told.{item_of, told_item}
use Rattle.rows.specs.read.Sized.{Sized}
use Rattle.rows.proofs.proper.Laws.{item-sized}
use Rattle.spelling.specs.file.Sum.{item_sum}
use Rattle.spelling.specs.file.Passing.{Passing}
use Rattle.spelling.proofs.file.Sum.{item-sum}

pub pass-top : (ts : List Thing) → batch_proper ts ≡ fine → Passing ts
unfolding batch_proper
pass-top ts e = record { k = 1; before = at_top; low = omega arith; rest = e }

-- the rows behind one that passed
pub pass_on : (x : Thing) (ts : List Thing) → Passing (x ∷ ts) → Passing ts
pass_on (a_file kind number) ts p =
    let (_, _, _, _, r) = file-proper p.k p.before kind number ts p.rest in
    record { k = suc p.k; before = after_file p.before; low = omega arith; rest = r }
pass_on (a_group date payer) ts p =
    let (_, _, _, r) = group-proper p.k p.before date payer ts p.rest in
    record { k = suc p.k; before = after_group p.before payer; low = omega arith; rest = r }
pass_on (an_item x) ts p =
    let (_, _, l, _, r) = item-proper p.k p.before x ts p.rest in
    record { k = suc p.k; before = after_item p.before x; low = l; rest = r }
pass_on (misnumbered x) ts p = absurd (misnumbered-proper p.k p.before x ts p.rest)
pass_on strange ts p = absurd (strange-proper p.k p.before ts p.rest)

-- a row of no known kind does not pass
pub pass-known : (ts : List Thing) → Passing (strange ∷ ts) → ⊥
pass-known ts p = strange-proper p.k p.before ts p.rest

-- an item's row that passes has a reference in range
pub pass-told : (t : List ℕ) (x : ItemRow) (ts : List Thing) → Passing (told_item t x ∷ ts) → told_item t x ≡ an_item (item_of t x)
unfolding pick
pass-told t x ts p =
    by-test (reference_proper x.reference)
    (λ e. rw e)
    (λ e. let q = rw e at p in absurd (misnumbered-proper q.k q.before (item_of t x) ts q.rest))

-- an item's row is as its writer needs it
pub pass-sized : (t : List ℕ) (x : ItemRow) (ts : List Thing) → Passing (an_item (item_of t x) ∷ ts) → Sized t x
pass-sized t x ts p =
    let (_, _, _, e, _) = item-proper p.k p.before (item_of t x) ts p.rest in
    (item-sized t x p.before.single p.before.sum p.k _ e).0

-- behind a group's row stand its items, whose sum has at most 14 digits
module _ (date : ℕ) (payer : Account) where
  pub pass-small : (ts : List Thing) → Passing (a_group date payer ∷ ts) → group_sum ts ≤ most14
  pass-small ts p =
      let (_, _, _, r) = group-proper p.k p.before date payer ts p.rest in
      omega (arith, sum-small (suc p.k) (after_group p.before payer) ts r (omega arith))

  pub pass-sum : (t : List ℕ) (rs : List (List ℕ)) → Passing (a_group date payer ∷ things_in t rs) → item_sum rs ≡ group_sum (things_in t rs)
  pass-sum t rs p = let q = pass_on (a_group date payer) (things_in t rs) p in item-sum t _ rs (proper-ordered q.k q.before _ q.rest)

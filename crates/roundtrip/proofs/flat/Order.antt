-- Rows that pass from some row on, taken one at a time; they are in order. Assumes nothing.
use mathlib.Core.Path.{◌≡◌}
use mathlib.Core.List.{List, [], ◌∷◌}
use Prim.Native.Nat.{ℕ, suc, ◌+◌, ◌≤◌}
use native.Mathlib.Omega.{arith}
use Rattle.paper.specs.Batch.{Thing, a_file, a_group, an_item, misnumbered, strange, most14}
use Rattle.paper.specs.Proper.{need_file, Before, at_top, fine, rows_proper, batch_proper, after_file, after_group, after_item}
use Rattle.roundtrip.proofs.linesound.Rows.{end-proper, file-proper, group-proper, item-proper, misnumbered-proper, strange-proper}
use Rattle.roundtrip.specs.flat.Flat.{group_sum}
use Rattle.roundtrip.specs.flat.Order.{Ordered}

-- the items that follow leave their group's sum within 14 digits
pub sum-small : (k : ℕ) (b : Before) (ts : List Thing) → rows_proper k b ts ≡ fine → b.sum ≤ most14 → b.sum + group_sum ts ≤ most14
unfolding group_sum
sum-small k b [] e s = omega arith
sum-small k b (a_file kind number ∷ ts) e s = omega arith
sum-small k b (a_group date payer ∷ ts) e s = omega arith
sum-small k b (an_item x ∷ ts) e s =
    let (_, _, l, _, r) = item-proper k b x ts e in
    omega (arith, sum-small (suc k) (after_item b x) ts r l)
sum-small k b (misnumbered x ∷ ts) e s = absurd (misnumbered-proper k b x ts e)
sum-small k b (strange ∷ ts) e s = absurd (strange-proper k b ts e)

-- rows that pass are in order
pub proper-ordered : (k : ℕ) (b : Before) (ts : List Thing) → rows_proper k b ts ≡ fine → Ordered b.stage ts
proper-ordered k b [] e = end-proper k b e
proper-ordered k b (a_file kind number ∷ ts) e =
    let (d, _, _, _, r) = file-proper k b kind number ts e in
    (d, proper-ordered (suc k) (after_file b) ts r)
proper-ordered k b (a_group date payer ∷ ts) e =
    let (d, _, _, r) = group-proper k b date payer ts e in
    (d, omega (arith, sum-small (suc k) (after_group b payer) ts r (omega arith)), proper-ordered (suc k) (after_group b payer) ts r)
proper-ordered k b (an_item x ∷ ts) e =
    let (d, _, _, _, r) = item-proper k b x ts e in
    (d, proper-ordered (suc k) (after_item b x) ts r)
proper-ordered k b (misnumbered x ∷ ts) e = misnumbered-proper k b x ts e
proper-ordered k b (strange ∷ ts) e = strange-proper k b ts e

pub batch-ordered : (ts : List Thing) → batch_proper ts ≡ fine → Ordered need_file ts
unfolding batch_proper
batch-ordered ts e = proper-ordered 1 at_top ts e

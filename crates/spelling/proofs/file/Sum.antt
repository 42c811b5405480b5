-- A group's sum, one row at a time; and that it is the sum of the batch's items. Assumes nothing.
use mathlib.Core.Path.{◌≡◌, refl, ◌∙◌}
use mathlib.Core.List.{List, [], ◌∷◌}
use Prim.Native.Nat.{ℕ, ◌+◌, ◌-◌, ◌≤◌, ◌<◌}
use native.Mathlib.Nat.{add-zero}
use native.Mathlib.Omega.{arith}
use lib.Dec.{eqb, lit<}
use lib.ListN.{length, drop, get_or}
use borrow.Author.Tests.{ne_eqb}
use Rattle.base.specs.Pick.{pick}
use Rattle.base.proofs.Cases.{by-test, by-lt, by-eq}
use Rattle.paper.specs.Batch.{most14}
use Rattle.paper.specs.Proper.{Stage, any}
use Rattle.paper.specs.Words.{words, word}
use Rattle.paper.specs.Rows.{reference_proper, thing_in, things_in}
use Rattle.roundtrip.specs.flat.Flat.{group_sum}
use Rattle.roundtrip.specs.flat.Order.{Ordered}
use Rattle.out.specs.word.Places.{word_here, rows_from}
use Rattle.out.proofs.word.Laws.{word-here}
use Rattle.out.proofs.word.Rows.{rows_step, rows_end, rows-rest}
use Rattle.spelling.specs.file.Sum.{item_sum}

module _ (rows : List ℕ) (at : ℕ) where
  kind-here : get_or (words 24 (drop at rows)) 0 0 ≡ word_here rows at
  kind-here = word-here 24 rows at 0 (lit< tt) ∙ rw add-zero

  -- `total` is the sum so far and that of the rows from `at` on
  module _ (total sum : ℕ) (so : total ≡ sum + item_sum (rows_from 24 rows at)) (here : 192 ≤ length rows - at) (kind : ℕ) (k : kind ≡ word_here rows at) where
    sum-here : total ≡ sum + pick (eqb kind 3) (word_here rows (at + 48) + item_sum (rows_from 24 rows (at + 192))) 0
    unfolding item_sum
    sum-here = rw (rows_step 24 (lit< tt) rows at (omega arith), kind-here, word-here 24 rows at 6 (lit< tt), ← k) at so

    pub sum-next : kind ≡ 3 → (n : ℕ) → n ≡ word_here rows (at + 48) → total ≡ (sum + n) + item_sum (rows_from 24 rows (at + 192))
    unfolding pick
    sum-next e n w = omega (arith, rw e at sum-here)

    pub sum_fits : total ≤ most14 → kind ≡ 3 → (n : ℕ) → n ≡ word_here rows (at + 48) → sum + n < 18446744073709551616
    sum_fits l e n w = omega (arith, sum-next e n w)

    pub sum-stop : (kind ≡ 3 → ⊥) → sum ≡ total
    unfolding pick
    sum-stop e = omega (arith, rw (ne_eqb kind 3 e) at sum-here)

  -- no row is left
  pub sum-last : (total sum : ℕ) → total ≡ sum + item_sum (rows_from 24 rows at) → length rows - at < 192 → sum ≡ total
  unfolding item_sum pick
  sum-last total sum so h =
      by-lt at (length rows)
      (λ l. omega (arith, rw (rows-rest 24 (lit< tt) rows at l (omega arith)) at so))
      (λ l. omega (arith, rw (rows_end 24 (lit< tt) rows at l) at so))

-- in rows that are in order it is the sum of the items that they begin with
pub item-sum : (t : List ℕ) (st : Stage) (rs : List (List ℕ)) → Ordered st (things_in t rs) → item_sum rs ≡ group_sum (things_in t rs)
unfolding item_sum group_sum things_in thing_in pick
item-sum t st [] o = refl
item-sum t st (r ∷ rs) o =
    by-eq (word r 0) 1
    (λ e. rw e)
    (λ e.
    by-eq (word r 0) 2
    (λ f. rw f)
    (λ f.
    by-eq (word r 0) 3
    (λ g.
    by-test (reference_proper (word r 21))
    (λ n. let q = (rw (g, n) at o).1 in rw (g, n, item-sum t any rs q))
    (λ n. absurd (rw (g, n) at o)))
    (λ g. absurd (rw (ne_eqb (word r 0) 1 e, ne_eqb (word r 0) 2 f, ne_eqb (word r 0) 3 g) at o))))

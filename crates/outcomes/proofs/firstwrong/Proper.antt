-- The verdict of 20 is that of its rules: the header's, and each row's by what stands before it. Assumes nothing.
use mathlib.Core.Path.{◌≡◌, refl, sym, ap, ◌∙◌}
use mathlib.Core.Bool.{Bool, true, false}
use mathlib.Core.List.{List, [], ◌∷◌}
use Prim.Native.Nat.{ℕ, suc, ◌+◌}
use native.Mathlib.Numerals.{add-one}
use native.Mathlib.Omega.{arith}
use lib.ListN.{length}
use Rattle.base.specs.Pick.{pick}
use Rattle.paper.specs.Texts.{part_proper}
use Rattle.paper.specs.Batch.{Item, Header, Thing, a_file, a_group, an_item, misnumbered, strange, sum}
use Rattle.paper.specs.Proper.{Verdict, fine, wrong, check, need_file, Before, at_top, after_file, after_group, after_item, header_proper, parts_from, item_proper, item_stands, rows_proper, batch_proper}
use Rattle.paper.specs.FirstWrong.{series_in, items_of_file, items_of_group, in_single, stage_behind, in_order, part_rules, proper_header, item_rules, proper_row, proper_end}
use Rattle.outcomes.proofs.firstwrong.Verdicts.{verdict_on, then, not-met, tested-in-order, parts-in-order}

-- two rules for one field, tested as one
both-tested : (k n : ℕ) (t u : Bool) (rest : Verdict) → check k n (pick t u false) rest ≡ check k n t (check k n u rest)
unfolding check pick
both-tested k n true u rest = refl
both-tested k n false u rest = refl

pub header-verdict : (h : Header) → header_proper h ≡ verdict_on (proper_header h) fine
unfolding header_proper proper_header verdict_on
header-verdict h = simp both-tested

-- ---- what stands before a row, as `Before` counts it

standing : List Thing → Before
standing ts =
    record {
      stage = stage_behind ts;
      files = length (series_in ts);
      items = length (items_of_file ts);
      single = in_single ts;
      sum = sum (items_of_group ts);
    }

at-top : standing [] ≡ at_top
unfolding standing stage_behind series_in items_of_file in_single items_of_group sum
at-top = refl

-- one row on; behind a row that is none of a batch nothing is tested
abbrev on : Thing → Before → Before
on (a_file kind number) b = after_file b
on (a_group date payer) b = after_group b payer
on (an_item x) b = after_item b x
on (misnumbered x) b = record { stage = need_file; files = b.files; items = b.items; single = b.single; sum = b.sum }
on strange b = record { stage = need_file; files = b.files; items = b.items; single = b.single; sum = b.sum }

sum-with : (ts : List Thing) (x : Item) → sum (x ∷ items_of_group ts) ≡ sum (items_of_group ts) + x.amount
unfolding sum
sum-with ts x = omega arith

stands : (t : Thing) (ts : List Thing) → on t (standing ts) ≡ standing (t ∷ ts)
unfolding standing stage_behind series_in items_of_file in_single items_of_group sum
stands (a_file kind number) ts = rw (add-one (length (series_in ts)))
stands (a_group date payer) ts = refl
stands (an_item x) ts = rw (add-one (length (items_of_file ts)), ← (sum-with ts x))
stands (misnumbered x) ts = refl
stands strange ts = refl

-- ---- one row

parts-tested : (k : ℕ) (ps : List (List ℕ)) (rest : Verdict) → parts_from k 11 ps rest ≡ verdict_on (part_rules k (λ i p. part_proper p) 0 ps) rest
unfolding parts_from
parts-tested k ps rest =
    parts-in-order k (λ i p. part_proper p) rest (λ n i qs. parts_from k n qs rest) (λ n i. refl) (λ n i p qs. refl) 11 0 ps refl

item-tested : (k : ℕ) (before : List Thing) (x : Item) (rest : Verdict) → item_stands k (standing before) x rest ≡ verdict_on (item_rules k before x) rest
unfolding item_rules verdict_on item_proper standing
item-tested k before x rest = simp (both-tested, sum-with, then, parts-tested)

row-tested : (k : ℕ) (before : List Thing) (t : Thing) (ts : List Thing)
    → rows_proper k (standing before) (t ∷ ts) ≡ verdict_on (proper_row k before t) (rows_proper (suc k) (on t (standing before)) ts)
unfolding rows_proper proper_row verdict_on standing
row-tested k before (a_file kind number) ts = simp both-tested
row-tested k before (a_group date payer) ts = refl
row-tested k before (an_item x) ts = item-tested k before x _
row-tested k before (misnumbered x) ts =
    item-tested k before x (wrong k 21)
    ∙ ap (λ v. verdict_on (item_rules k before x) v) (not-met k 21 [] _)
    ∙ sym (then (item_rules k before x) _ _)
row-tested k before strange ts = not-met k 0 [] _

-- ---- all rows

pub batch-verdict : (ts : List Thing) → batch_proper ts ≡ verdict_on (in_order proper_row proper_end 1 [] ts) fine
unfolding batch_proper rows_proper proper_end verdict_on standing
batch-verdict ts =
    ap (λ b. rows_proper 1 b ts) (sym at-top)
    ∙ tested-in-order proper_row proper_end (λ k before rows. rows_proper k (standing before) rows) (λ k before. refl)
    (λ k before t rows. row-tested k before t rows ∙ ap (λ b. verdict_on (proper_row k before t) (rows_proper (suc k) b rows)) (stands t before))
    1 [] ts

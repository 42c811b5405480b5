-- The verdict of 21 is that of its rules: the header's, and each row's by what stands before it. Assumes nothing.
use mathlib.Core.Path.{◌≡◌, refl}
use mathlib.Core.List.{List, [], ◌∷◌}
use Prim.Native.Nat.{ℕ, suc}
use lib.ListN.{length}
use Rattle.sheet.specs.declared.Sheet.{Sheet}
use Rattle.sheet.specs.declared.Style.{Style}
use Rattle.paper.specs.Texts.{part_carried}
use Rattle.paper.specs.Batch.{Header, Thing, a_file, a_group, an_item, misnumbered, strange}
use Rattle.paper.specs.Proper.{Verdict, fine}
use Rattle.paper.specs.Carried.{header_carried, parts_carried_from, item_carried, Place, rows_carried, batch_carried}
use Rattle.paper.specs.FirstWrong.{series_in, items_in, kind_in, date_in, in_order, part_rules, carried_header, carried_row}
use Rattle.outcomes.proofs.firstwrong.Verdicts.{verdict_on, then, not-met, tested-in-order, parts-in-order}

parts-tested : (y : Style) (k : ℕ) (ps : List (List ℕ)) (rest : Verdict)
    → parts_carried_from y k 11 0 ps rest ≡ verdict_on (part_rules k (part_carried y) 0 ps) rest
unfolding parts_carried_from
parts-tested y k ps rest =
    parts-in-order k (part_carried y) rest (λ n i qs. parts_carried_from y k n i qs rest) (λ n i. refl) (λ n i p qs. refl) 11 0 ps refl

module _ (sh : Sheet) (today : ℕ) (h : Header) where
  pub header-verdict : header_carried sh.interval h ≡ verdict_on (carried_header sh today h) fine
  unfolding header_carried carried_header verdict_on
  header-verdict = refl

  -- the place of rows behind these: their items and account files are counted, the last account file and its last group are at hand
  abbrev place_behind : List Thing → Place
  place_behind before = record { items = length (items_in before); seen = series_in before; kind = kind_in before; date = date_in before }

  abbrev tests : ℕ → List Thing → List Thing → Verdict
  tests k before ts = rows_carried sh today h k (place_behind before) ts

  row-tested : (k : ℕ) (before : List Thing) (t : Thing) (ts : List Thing)
      → tests k before (t ∷ ts) ≡ verdict_on (carried_row sh today h k before t) (tests (suc k) (t ∷ before) ts)
  unfolding rows_carried item_carried carried_row verdict_on items_in series_in kind_in date_in
  row-tested k before (a_file kind number) ts = refl
  row-tested k before (a_group date payer) ts = refl
  row-tested k before (an_item x) ts = simp (then, parts-tested)
  row-tested k before (misnumbered x) ts = not-met k 21 [] _
  row-tested k before strange ts = not-met k 0 [] _

  pub batch-verdict : (ts : List Thing) → batch_carried sh today h ts ≡ verdict_on (in_order (carried_row sh today h) (λ k before. []) 1 [] ts) fine
  unfolding batch_carried rows_carried verdict_on items_in series_in kind_in date_in
  batch-verdict ts = tested-in-order (carried_row sh today h) (λ k before. []) tests (λ k before. refl) row-tested 1 [] ts

-- The judge accepts the lines that are left exactly when they complete its state. Assumes nothing.
use mathlib.Core.Path.{◌≡◌, refl, ◌∙◌}
use mathlib.Core.List.{List, [], ◌∷◌}
use Prim.Native.Nat.{ℕ, suc}
use native.Mathlib.Omega.{arith}
use Rattle.base.proofs.Cases.{either, pick-false}
use Rattle.sheet.specs.declared.Sheet.{Sheet}
use Rattle.paper.specs.Batch.{Batch, Header}
use Rattle.paper.specs.Lines.{Line}
use Rattle.paper.specs.Spells.{item_dues, group_dues, file_dues, dues, file_items}
use Rattle.paper.specs.Judge.{Accepted, State, at_first, at_file, at_group, at_item, stop, step, end_of, run}
use Rattle.paper.proofs.Lists.{null-some, some-null}
use Rattle.exact.proofs.Moves.{Next, on, halted, stays, next}
use Rattle.exact.proofs.Completes.{refused, Completes, back, forth}

module _ (sh : Sheet) (today : ℕ) (h : Header) (b : Batch) (w : ℕ) where
  -- ---- the end of the file

  end-only : (size k : ℕ) (st : State) → end_of size k st ≡ Accepted h b w → Completes sh today h b w [] st
  unfolding end_of file_dues file_items
  end-only size k at_first e = refused e
  end-only size k (at_file x) e =
      either (λ a. a ≡ Accepted h b w → Completes sh today h b w [] (at_file x)) _ (λ _ e. refused e)
      (λ s e.
      let i : w ≡ x.warnings = cc in
      let n = null-some x.files s in
      ([], 0, (cc), (cc), omega arith, refl, omega arith, omega arith, omega arith, tt)) e
  end-only size k (at_group x) e = refused e
  end-only size k (at_item x) e = refused e
  end-only size k (stop a) e = e

  end-also : (size k : ℕ) (st : State) → Completes sh today h b w [] st → end_of size k st ≡ Accepted h b w
  unfolding end_of dues file_dues group_dues item_dues
  end-also size k at_first c = absurd c.0
  end-also size k (at_file x) ([], m, eh, e, i, o, some, _, _, _) =
      let q : x.warnings ≡ w = omega arith in
      pick-false _ _ (some-null x.files (omega arith)) ∙ rw (eh, e, q)
  end-also size k (at_file x) (f ∷ mf, _, _, _, _, o, _, _, _, _) = absurd o
  end-also size k (at_group x) ([], _, _, _, _, _, o, _, _, _, _, _, _) = absurd o
  end-also size k (at_group x) (g ∷ mg, _, _, _, _, _, o, _, _, _, _, _, _) = absurd o
  end-also size k (at_item x) ([], _, _, _, _, _, _, o, _, _, _, _, _, _, _, _) = absurd o
  end-also size k (at_item x) (i ∷ mx, _, _, _, _, _, _, o, _, _, _, _, _, _, _, _) = absurd o
  end-also size k (stop a) c = c

  -- ---- one line, and all lines

  before : (size k : ℕ) (t : Line) (ts : List Line) {st new : State}
      → Next sh today size k t ts st new → Completes sh today h b w ts new → Completes sh today h b w (t ∷ ts) st
  before size k t ts (on m) c = back sh today h b w k t ts m c
  before size k t ts (halted f) c = refused c
  before size k t ts stays c = c

  pub accepts-only : (size k : ℕ) (ts : List Line) (st : State) → run sh today size k ts st ≡ Accepted h b w → Completes sh today h b w ts st
  unfolding run
  accepts-only size k [] st e = end-only size k st e
  accepts-only size k (t ∷ ts) st e = before size k t ts (next sh today size k t ts st) (accepts-only size (suc k) ts (step sh today k t st) e)

  pub accepts-also : (size k : ℕ) (ts : List Line) (st : State) → Completes sh today h b w ts st → run sh today size k ts st ≡ Accepted h b w
  unfolding run
  accepts-also size k [] st c = end-also size k st c
  accepts-also size k (t ∷ ts) st c = accepts-also size (suc k) ts (step sh today k t st) (forth sh today h b w k t ts st c)

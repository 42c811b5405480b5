-- In a file that is accepted, the exact sum of each group's items has at most 14 digits: what an open group has and what follows of it.
-- Assumes nothing.
use mathlib.Core.Path.{◌≡◌, refl, sym, ◌∙◌}
use mathlib.Core.Bool.{Bool, false}
use mathlib.Core.List.{List, [], ◌∷◌}
use Prim.Native.Nat.{ℕ, suc, ◌+◌, ◌≤◌}
use native.Mathlib.Omega.{arith}
use lib.Dec.{ltb}
use borrow.Author.Tests.{ltb-false}
use Rattle.base.specs.Pick.{pick}
use Rattle.base.proofs.Cases.{by-test}
use Rattle.base.proofs.Seek.{never}
use Rattle.sheet.specs.declared.Sheet.{Sheet}
use Rattle.paper.specs.Batch.{Batch, Header, sum, most14}
use Rattle.paper.specs.Lines.{Line}
use Rattle.paper.specs.Judge.{Accepted, InGroup, State, at_item, context_of, items_of, total_broken, step, end_of, run}
use Rattle.paper.proofs.Lists.{sum-rev}
use Rattle.exact.proofs.Completes.{refused}
use Rattle.exact.proofs.Moves.{more, closes, Next, on, halted, next}
use Rattle.exact.proofs.faults.Found.{run-stop}
use Rattle.why.specs.Warned.{ahead}
use Rattle.why.proofs.Warned.{ahead-item, ahead-end}

-- a total that is not refused is of a sum of at most 14 digits
unbroken-low : (strict : Bool) (total exact : ℕ) → total_broken strict total exact ≡ false → exact ≤ most14
unfolding total_broken pick
unbroken-low strict total exact h = by-test (ltb most14 exact) (λ e. never (simp e at h)) (λ e. ltb-false most14 exact e)

-- an open group's sum, with that of the lines that follow
abbrev Low : Sheet → ℕ → InGroup → List Line → Type 0
Low sh today x ts = sum (items_of x) + ahead sh today (context_of (at_item x)) ts ≤ most14

module _ (sh : Sheet) (today size : ℕ) {h : Header} {b : Batch} {w : ℕ} where
  -- an item goes on with it, and the closing line ends it
  low_step : (t : Line) (ts : List Line) (k : ℕ) (x : InGroup) (new : State) → Next sh today size k t ts (at_item x) new → run sh today size (suc k) ts new ≡ Accepted h b w
      → ((y : InGroup) → new ≡ at_item y → Low sh today y ts) → Low sh today x (t ∷ ts)
  unfolding context_of sum
  low_step t ts k x new (on (more {i = i} free (p, q))) e later =
      omega (arith, later _ refl, ahead-item sh today _ t ts q, sum-rev x.items [], sum-rev (i ∷ x.items) [])
  low_step t ts k x new (on (closes some (p, q) good)) e later =
      omega (arith, ahead-end sh today _ t ts q, unbroken-low sh.strict x.head.total (sum (items_of x)) good)
  low_step t ts k x new (halted y) e later = refused (sym (run-stop sh today size (suc k) ts _) ∙ e)

  lines-low : (ts : List Line) (k : ℕ) (x : InGroup) → run sh today size k ts (at_item x) ≡ Accepted h b w → Low sh today x ts
  unfolding run end_of
  lines-low [] k x e = refused e
  lines-low (t ∷ ts) k x e =
      low_step t ts k x (step sh today k t (at_item x)) (next sh today size k t ts (at_item x)) e λ y s. lines-low ts (suc k) y (rw s at e)

-- Of an open group in a file that is accepted: the sum of its items so far and of those that follow.
pub ahead-low : (sh : Sheet) (today size k : ℕ) (ts : List Line) (x : InGroup) {h : Header} {b : Batch} {w : ℕ} → run sh today size k ts (at_item x) ≡ Accepted h b w
    → sum (items_of x) + ahead sh today (context_of (at_item x)) ts ≤ most14
ahead-low sh today size k ts x e = lines-low sh today size ts k x e

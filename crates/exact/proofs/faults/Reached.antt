-- The state that lawful lines leave is the one that the judge reaches over them. Assumes nothing.
use mathlib.Core.Path.{◌≡◌, refl, ap, ◌∙◌}
use mathlib.Core.List.{List, ◌∷◌}
use Prim.Native.Nat.{ℕ, suc}
use lib.ListN.{length}
use Rattle.sheet.specs.declared.Sheet.{Sheet}
use Rattle.paper.specs.Lines.{Line}
use Rattle.paper.specs.Judge.{Answer, rev_on, State, at_first, stop, run}
use Rattle.paper.specs.FirstFault.{Lawful, nothing, header, opens as opened, begins as begun, more as added, closes as closed, finishes as finished}
use Rattle.exact.proofs.Told.{told-line, kind-item}
use Rattle.exact.proofs.Moves.{Moves, heads, opens, begins, more, closes, finishes, moves-step}

module _ (sh : Sheet) (today : ℕ) where
  -- lawful lines and one that moves their state on are lawful
  pub lawful-on : {ts : List Line} {t : Line} {st new : State} → Lawful sh today ts st
      → Moves sh today (suc (length ts)) t st new → Lawful sh today (t ∷ ts) new
  lawful-on l (heads q) = header l q
  lawful-on l (opens few q) = opened l few q
  lawful-on l (begins q) = begun l q
  lawful-on {t = t} l (more free (p, q)) = added {t = t} l (rw (kind-item (told-line sh today _ t.bytes _ q)) free) (p, q)
  lawful-on l (closes some q good) = closed l some q good
  lawful-on l (finishes some q) = finished l some q

  -- they leave no state in which the judge has stopped
  pub going : {ts : List Line} {a : Answer} {A : Type 0} → Lawful sh today ts (stop a) → A
  going = elim [ ]

  -- what goes on with each line that moves the state on comes to where lawful lines lead
  module _ {B : Type 0} (g : ℕ → List Line → State → B)
      (on : (k : ℕ) (t : Line) (st new : State) → Moves sh today k t st new → (after : List Line) → g k (t ∷ after) st ≡ g (suc k) after new) where
    pub reached-by : {ts : List Line} {st : State} → Lawful sh today ts st → (after : List Line) → g 1 (rev_on ts after) at_first ≡ g (suc (length ts)) after st
    reached-by nothing after = refl
    reached-by (header {t = t} l q) after = reached-by l (t ∷ after) ∙ on _ _ _ _ (heads q) after
    reached-by (opened {t = t} l few q) after = reached-by l (t ∷ after) ∙ on _ _ _ _ (opens few q) after
    reached-by (begun {t = t} l q) after = reached-by l (t ∷ after) ∙ on _ _ _ _ (begins q) after
    reached-by (added {t = t} l free (p, q)) after =
        reached-by l (t ∷ after) ∙ on _ _ _ _ (more (rw (kind-item (told-line sh today _ t.bytes _ q)) at free) (p, q)) after
    reached-by (closed {t = t} l some q good) after = reached-by l (t ∷ after) ∙ on _ _ _ _ (closes some q good) after
    reached-by (finished {t = t} l some q) after = reached-by l (t ∷ after) ∙ on _ _ _ _ (finishes some q) after

  -- so does the judge
  module _ (size : ℕ) where
    moved : (k : ℕ) (t : Line) (st new : State) → Moves sh today k t st new → (after : List Line)
        → run sh today size k (t ∷ after) st ≡ run sh today size (suc k) after new
    unfolding run
    moved k t st new m after = ap (λ s. run sh today size (suc k) after s) (moves-step sh today _ _ m)

    pub reached : {ts : List Line} {st : State} → Lawful sh today ts st → (after : List Line)
        → run sh today size 1 (rev_on ts after) at_first ≡ run sh today size (suc (length ts)) after st
    reached = reached-by (λ k ts st. run sh today size k ts st) moved

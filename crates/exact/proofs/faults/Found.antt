-- Where the judge refuses, it has found a fault behind lawful lines. Assumes nothing.
use mathlib.Core.Path.{◌≡◌, refl, sym, ◌∙◌}
use mathlib.Core.List.{List, [], ◌∷◌}
use Prim.Native.Nat.{ℕ, suc}
use lib.ListN.{length}
use Rattle.base.proofs.Cases.{by-test, pick_true, pick-false}
use Rattle.sheet.specs.declared.Sheet.{Sheet}
use Rattle.paper.specs.Bytes.{null}
use Rattle.paper.specs.Lines.{Line}
use Rattle.paper.specs.Judge.{Answer, Refused, rev_on, State, at_first, at_file, at_group, at_item, stop, step, end_of, run}
use Rattle.paper.specs.FirstFault.{Lawful, Broken, ends_first, ends_none, ends_file, ends_group}
use Rattle.exact.proofs.Moves.{Next, on, halted, stays, next}
use Rattle.exact.proofs.Completes.{refused}
use Rattle.exact.proofs.faults.Reached.{lawful-on, going}

module _ (sh : Sheet) (today size : ℕ) where
  -- what has stopped answers so
  pub run-stop : (k : ℕ) (ts : List Line) (a : Answer) → run sh today size k ts (stop a) ≡ a
  unfolding run end_of step
  run-stop k [] a = refl
  run-stop k (t ∷ ts) a = run-stop (suc k) ts a

  -- an early end
  early : (k n l p : ℕ) {rb : List Line} (st : State) → Lawful sh today rb st → end_of size k st ≡ Refused n l p
      → Broken sh today size k st [] (Refused n l p)
  unfolding end_of
  early k n l p at_first r e = rw (← e) ends_first
  early k n l p (at_file x) r e =
      by-test (null x.files)
      (λ none. rw (← (sym (pick_true _ _ none) ∙ e)) (ends_none none))
      (λ some. refused (sym e ∙ pick-false _ _ some))
  early k n l p (at_group x) r e = rw (← e) ends_file
  early k n l p (at_item x) r e = rw (← e) ends_group
  early k n l p (stop a) r e = going sh today r

  -- the first fault of the lines `all`
  pub record Found (all : List Line) (a : Answer) : Type 0 where
    pub before : List Line
    pub after : List Line
    pub split : all ≡ rev_on before after
    pub so_far : State
    pub lawful : Lawful sh today before so_far
    pub broken : Broken sh today size (suc (length before)) so_far after a

  module _ (n l p : ℕ) where
    -- one line: the rest of the file has the fault, or this line
    here : (rb : List Line) (t : Line) (ts : List Line) (st new : State) → Lawful sh today rb st → Next sh today size (suc (length rb)) t ts st new
        → run sh today size (suc (suc (length rb))) ts new ≡ Refused n l p
        → ((s : State) → Lawful sh today (t ∷ rb) s → run sh today size (suc (suc (length rb))) ts s ≡ Refused n l p
        → Found (rev_on rb (t ∷ ts)) (Refused n l p))
        → Found (rev_on rb (t ∷ ts)) (Refused n l p)
    here rb t ts st new r (on m) e later = later new (lawful-on sh today r m) e
    here rb t ts st new r (halted b) e later =
        record { before = rb; after = t ∷ ts; split = refl; so_far = st; lawful = r; broken = rw (sym (run-stop _ ts _) ∙ e) at b }
    here rb t ts st new r stays e later = going sh today r

    pub found : (ts rb : List Line) (st : State) → Lawful sh today rb st → run sh today size (suc (length rb)) ts st ≡ Refused n l p
        → Found (rev_on rb ts) (Refused n l p)
    unfolding run
    found [] rb st r e = record { before = rb; after = []; split = refl; so_far = st; lawful = r; broken = early _ n l p st r e }
    found (t ∷ ts) rb st r e = here rb t ts st _ r (next sh today size _ t ts st) e (found ts (t ∷ rb))

-- A line that breaks a rule stops the judge with that refusal. Assumes nothing.
use mathlib.Core.Path.{◌≡◌, refl, ap, ◌∙◌}
use mathlib.Core.Bool.{true, false}
use mathlib.Core.List.{List, ◌∷◌}
use Prim.Native.Nat.{ℕ, suc, ◌+◌}
use Rattle.base.specs.Pick.{pick}
use Rattle.base.proofs.Cases.{pick_true, pick-false}
use Rattle.sheet.specs.declared.Sheet.{Sheet}
use Rattle.paper.specs.Bytes.{null}
use Rattle.paper.specs.Lines.{Line}
use Rattle.paper.specs.Entries.{kind_of, group_end, no, on_item, on_entry}
use Rattle.paper.specs.Spells.{read_line}
use Rattle.paper.specs.Judge.{Answer, Refused, State, at_first, at_file, at_group, at_item, stop, context_of, is_due, is_full, closed, meet, on_said, read, step, end_of, run}
use Rattle.paper.specs.FirstFault.{Lawful, Broken, ends_first, ends_none, ends_file, ends_group, not-due, full, in_line, total}
use Rattle.exact.proofs.Told.{told-line, kind-group-end}
use Rattle.exact.proofs.Moves.{passes}
use Rattle.exact.proofs.faults.Reached.{going}
use Rattle.exact.proofs.faults.Found.{run-stop}

module _ (sh : Sheet) (today : ℕ) where
  module _ (k : ℕ) (t : Line) where
    -- a state that lawful lines leave reads the next line
    reads : {rb : List Line} (st : State) → Lawful sh today rb st → step sh today k t st ≡ read sh today k t (kind_of t.bytes) st
    unfolding step
    reads at_first r = refl
    reads (at_file x) r = refl
    reads (at_group x) r = refl
    reads (at_item x) r = refl
    reads (stop a) r = going sh today r

    other : (st : State) → is_due st (kind_of t.bytes) ≡ false → read sh today k t (kind_of t.bytes) st ≡ stop (Refused 3 k t.start)
    unfolding read
    other st d = pick-false _ _ d

    over : (st : State) → is_due st (kind_of t.bytes) ≡ true → is_full sh st (kind_of t.bytes) ≡ true
        → read sh today k t (kind_of t.bytes) st ≡ stop (Refused 15 k t.start)
    unfolding read
    over st d f = pick_true _ _ d ∙ pick_true _ _ f

    faulty : (st : State) (n off : ℕ) → is_due st (kind_of t.bytes) ≡ true → is_full sh st (kind_of t.bytes) ≡ false
        → read_line sh today (context_of st) t.bytes ≡ no n off → read sh today k t (kind_of t.bytes) st ≡ stop (Refused n k (t.start + off))
    unfolding on_said
    faulty st n off d f q = passes sh today k t st (kind_of t.bytes) _ refl d f q

  module _ (size k : ℕ) where
    stopped : (t : Line) (ts : List Line) (st : State) {a : Answer} → step sh today k t st ≡ stop a → run sh today size k (t ∷ ts) st ≡ a
    unfolding run
    stopped t ts st e = ap (λ s. run sh today size (suc k) ts s) e ∙ run-stop sh today size (suc k) ts _

    -- a line that breaks a rule stops it
    pub stops : {rb ts : List Line} {t : Line} {st : State} {a : Answer} → Lawful sh today rb st → Broken sh today size k st (t ∷ ts) a → step sh today k t st ≡ stop a
    unfolding step on_said meet is_due is_full on_entry on_item closed pick null
    stops r (not-due {st = st} {t = t} d) = reads k t st r ∙ other k t st d
    stops r (full {st = st} {t = t} d f) = reads k t st r ∙ over k t st d f
    stops r (in_line {st = st} {t = t} {n = n} {off = off} d f q) = reads k t st r ∙ faulty k t st n off d f q
    stops r (total {x = x} {t = t} some (p, q) e) =
        passes sh today k t (at_item x) group_end _ (kind-group-end (told-line sh today _ t.bytes _ q)) (rw some) refl q ∙ pick_true _ _ e

    pub halts : {rb ts : List Line} {st : State} {a : Answer} → Lawful sh today rb st → Broken sh today size k st ts a → run sh today size k ts st ≡ a
    unfolding run end_of
    halts r ends_first = refl
    halts r (ends_none {x = x} none) = pick_true _ _ none
    halts r ends_file = refl
    halts r ends_group = refl
    halts r (not-due {st = st} {t = t} {ts = ts} d) = stopped t ts st (stops r (not-due {ts = ts} d))
    halts r (full {st = st} {t = t} {ts = ts} d f) = stopped t ts st (stops r (full {ts = ts} d f))
    halts r (in_line {st = st} {t = t} {ts = ts} d f q) = stopped t ts st (stops r (in_line {ts = ts} d f q))
    halts r (total {x = x} {t = t} {ts = ts} some q e) = stopped t ts (at_item x) (stops r (total {ts = ts} some q e))

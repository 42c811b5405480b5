-- A whole file, judged against a register: as ever, or refused where its date or a number is not the register's; and what that says of the answer as
-- ever. Assumes nothing.
use mathlib.Core.Path.{◌≡◌, refl, sym, ◌∙◌}
use mathlib.Core.Bool.{true, false}
use mathlib.Core.List.{List, [], ◌∷◌}
use Prim.Native.Nat.{ℕ, suc, ◌+◌}
use lib.ListN.{length}
use Rattle.base.proofs.Cases.{by-test, pick_true, pick-false}
use Rattle.sheet.specs.declared.Sheet.{Sheet}
use Rattle.paper.specs.Bytes.{null}
use Rattle.paper.specs.Batch.{Batch, Header}
use Rattle.paper.specs.Lines.{Line, lines_of}
use Rattle.paper.specs.Entries.{got, head_line, kind_of}
use Rattle.paper.specs.Judge.{Answer, Refused, Accepted, rev_on, State, at_first, at_file, at_group, at_item, stop, step, end_of, run, judge}
use Rattle.paper.specs.FirstFault.{Lawful, nothing}
use Rattle.exact.proofs.Moves.{Moves, Next, on, halted, stays, next}
use Rattle.exact.proofs.Completes.{refused, Completes}
use Rattle.exact.proofs.Accepts.{accepts-only}
use Rattle.exact.proofs.faults.Reached.{lawful-on, going}
use Rattle.exact.proofs.faults.Found.{run-stop}
use Rattle.register.specs.Register.{Register, fits, used}
use Rattle.against.specs.Against.{day_of, step_on, run_on, judge_on}
use Rattle.against.specs.FirstUsed.{Unused, OtherDate, UsedNumber}
use Rattle.against.proofs.Numbers.{none-unused, first-unused, rev-unused, unused-rev}
use Rattle.against.proofs.Way.{Clear, Way, kept, dated, struck, date-strikes, number-strikes, way}

module _ (reg : Register) (sh : Sheet) (today : ℕ) where
  -- the register is for the header's date and marks none of the batch's numbers
  abbrev pub Right : Header → Batch → Type 0
  Right h b = (fits reg h.date ≡ true) × Unused (used reg) b

  -- what has stopped answers so
  pub stopped-on : (size k : ℕ) (ts : List Line) (a : Answer) → run_on reg sh today size k ts (stop a) ≡ a
  unfolding run_on step_on end_of
  stopped-on size k [] a = refl
  stopped-on size k (t ∷ ts) a = stopped-on size (suc k) ts a

  -- ---- at the end, and on the way there

  -- a state that the register is content with ends so
  end-right : (size k : ℕ) {rb : List Line} (st : State) → Lawful sh today rb st → Clear reg st → (h : Header) (b : Batch) (w : ℕ)
      → end_of size k st ≡ Accepted h b w → Right h b
  unfolding end_of
  end-right size k at_first l c h b w e = refused e
  end-right size k (at_file x) l c h b w e =
      by-test (null x.files)
      (λ none. refused (sym (pick_true _ _ none) ∙ e))
      (λ some.
      let y : Accepted x.header (rev_on x.files []) x.warnings ≡ Accepted h b w = sym (pick-false _ _ some) ∙ e in
      let p : x.header ≡ h = cc in
      let q : rev_on x.files [] ≡ b = cc in
      (rw p at c.0, rw q at (rev-unused (used reg) x.files [] c.1 (none-unused (used reg)))))
  end-right size k (at_group x) l c h b w e = refused e
  end-right size k (at_item x) l c h b w e = refused e
  end-right size k (stop a) l c h b w e = going sh today l

  -- a file that ends so was so on the way
  completes-clear : (h : Header) (b : Batch) (w : ℕ) (ts : List Line) (st : State) → Completes sh today h b w ts st → Right h b → Clear reg st
  completes-clear h b w ts at_first c r = tt
  completes-clear h b w ts (at_file x) c r = (rw c.2 at r.0, (unused-rev (used reg) x.files c.0 (rw c.3 at r.1)).0)
  completes-clear h b w ts (at_group x) c r =
      let u = unused-rev (used reg) x.files _ (rw c.4 at r.1) in
      (rw c.3 at r.0, u.0, first-unused (used reg) _ _ u.1)
  completes-clear h b w ts (at_item x) c r =
      let u = unused-rev (used reg) x.files _ (rw c.5 at r.1) in
      (rw c.4 at r.0, u.0, first-unused (used reg) _ _ u.1)
  completes-clear h b w ts (stop a) c r = tt

  -- ---- the whole file

  module _ (f : List ℕ) where
    -- the answer as ever, and that against the register
    pub data Outcome : Answer → Answer → Type 0 where
      alike : {a : Answer} → ((h : Header) (b : Batch) (w : ℕ) → a ≡ Accepted h b w → Right h b) → Outcome a a
      another : {a : Answer} {l p : ℕ}
          → OtherDate reg f l p
          → ((h : Header) (b : Batch) (w : ℕ) → a ≡ Accepted h b w → Right h b → ⊥)
          → Outcome a (Refused 23 l p)
      marked : {a : Answer} {l p : ℕ}
          → UsedNumber reg sh today f l p
          → ((h : Header) (b : Batch) (w : ℕ) → a ≡ Accepted h b w → Right h b → ⊥)
          → Outcome a (Refused 22 l p)

    -- the first line is the first
    other-date-at : {rb : List Line} (t : Line) (ts : List Line) (d : ℕ) → lines_of 0 f ≡ rev_on rb (t ∷ ts) → Lawful sh today rb at_first
        → kind_of t.bytes ≡ head_line → day_of t.bytes ≡ got d → fits reg d ≡ false → OtherDate reg f (suc (length rb)) (t.start + 4)
    other-date-at t ts d split nothing j r o =
        record { line = t; after = ts; split = split; kind = j; date = d; read = r; other = o; place = (refl, refl) }

    module _ (size : ℕ) (rb : List Line) (t : Line) (ts : List Line) where
      abbrev K : ℕ
      K = suc (length rb)

      -- as ever, but the register would not be content
      lost : {st new : State} → Lawful sh today rb st → Next sh today size K t ts st new
          → ((s : State) → Moves sh today K t st s → Clear reg s → ⊥)
          → (h : Header) (b : Batch) (w : ℕ) → run sh today size (suc K) ts new ≡ Accepted h b w → Right h b → ⊥
      lost {new = new} l (on m) bad h b w e r = bad new m (completes-clear h b w ts new (accepts-only sh today h b w size (suc K) ts new e) r)
      lost l (halted x) bad h b w e r = refused (sym (run-stop sh today size (suc K) ts _) ∙ e)
      lost l stays bad h b w e r = going sh today l

      -- as ever
      goes : {st new : State} → Lawful sh today rb st → Next sh today size K t ts st new
          → ((s : State) → Moves sh today K t st s → Clear reg s)
          → ((s : State) → Lawful sh today (t ∷ rb) s → Clear reg s → Outcome (run sh today size (suc K) ts s) (run_on reg sh today size (suc K) ts s))
          → Outcome (run sh today size (suc K) ts new) (run_on reg sh today size (suc K) ts new)
      goes {new = new} l (on m) good later = later new (lawful-on sh today l m) (good new m)
      goes l (halted {n = n} {l = i} {p = p} x) good later =
          rw (run-stop sh today size (suc K) ts (Refused n i p), stopped-on size (suc K) ts (Refused n i p)) (alike (λ h b w e. refused e))
      goes l stays good later = going sh today l

      line : (st : State) → lines_of 0 f ≡ rev_on rb (t ∷ ts) → Lawful sh today rb st → Clear reg st → Way reg sh today K t st
          → ((s : State) → Lawful sh today (t ∷ rb) s → Clear reg s → Outcome (run sh today size (suc K) ts s) (run_on reg sh today size (suc K) ts s))
          → Outcome (run sh today size (suc K) ts (step sh today K t st)) (run_on reg sh today size (suc K) ts (step_on reg sh today K t st))
      line st split l c (kept e good) later = rw e (goes l (next sh today size K t ts st) good later)
      line st split l c (dated {d = d} j r o bad) later =
          rw (date-strikes reg sh today K t d j r o, stopped-on size (suc K) ts (Refused 23 K (t.start + 4)))
          (another (other-date-at t ts d split l j r o) (lost l (next sh today size K t ts at_first) bad))
      line st split l c (struck {x = x} {n = n} {off = off} room j r z m bad) later =
          rw (number-strikes reg sh today K t x n off room j r z m, stopped-on size (suc K) ts (Refused 22 K (t.start + off)))
          (marked
          (record {
            before = rb;
            line = t;
            after = ts;
            split = split;
            so_far = x;
            lawful = l;
            day = c.0;
            unused = c.1;
            room = room;
            kind = j;
            number = n;
            off = off;
            reaches = r;
            allowed = z;
            marked = m;
            place = (refl, refl);
          })
          (lost l (next sh today size K t ts (at_file x)) bad))

    module _ (headed : sh.header ≡ true) where
      lines : (size : ℕ) (ts rb : List Line) → lines_of 0 f ≡ rev_on rb ts → (st : State) → Lawful sh today rb st → Clear reg st
          → Outcome (run sh today size (suc (length rb)) ts st) (run_on reg sh today size (suc (length rb)) ts st)
      unfolding run run_on
      lines size [] rb split st l c = alike (end-right size _ st l c)
      lines size (t ∷ ts) rb split st l c =
          line size rb t ts st split l c (way reg sh today _ t headed st c) (lines size ts (t ∷ rb) split)

      pub outcome : sh.interval ≡ true → Outcome (judge sh today f) (judge_on reg sh today f)
      unfolding judge judge_on
      outcome i = rw (pick_true _ _ i) (lines (length f) (lines_of 0 f) [] refl at_first nothing tt)

-- The list of a file's warnings has as many findings as reading counts. Assumes nothing.
use mathlib.Core.Path.{◌≡◌, refl, sym, ap, ◌∙◌}
use mathlib.Core.Bool.{false}
use mathlib.Core.List.{List, [], ◌∷◌, map}
use Prim.Native.Nat.{ℕ, suc, ◌+◌}
use native.Mathlib.Omega.{arith}
use lib.Dec.{eqb}
use lib.ListN.{length, length-append, length-map}
use Rattle.base.specs.Pick.{pick}
use Rattle.base.proofs.Cases.{by-test, pick_true, pick-false}
use Rattle.base.proofs.Seek.{never}
use Rattle.sheet.specs.declared.Sheet.{Sheet}
use Rattle.paper.specs.Warnings.{Notice}
use Rattle.paper.specs.Bytes.{null}
use Rattle.paper.specs.Accounts.{is_nobody}
use Rattle.paper.specs.Batch.{Item, Batch, Header, sum}
use Rattle.paper.specs.Lines.{Line, lines_of}
use Rattle.paper.specs.Entries.{Entry, head, item, close_group, Places, saying, said, counted, kind_of, on_entry, on_group, on_item}
use Rattle.paper.specs.Spells.{Context, for_item, read_as, read_line, differs}
use Rattle.paper.specs.Judge.{Accepted, rev_on, State, at_first, at_file, at_group, at_item, stop, context_of, items_of, step, end_of, run, judge}
use Rattle.paper.proofs.Lists.{sum-rev}
use Rattle.paper.proofs.Passing.{counted-said, same_parts}
use Rattle.exact.proofs.Completes.{refused}
use Rattle.exact.proofs.Moves.{Moves, heads, opens, begins, more, closes, finishes, Next, on, halted, stays, next}
use Rattle.exact.proofs.faults.Found.{run-stop}
use Rattle.why.specs.Finding.{halted as stopped}
use Rattle.why.specs.Warned.{on_listed, noticed, ahead, differing, total_warned, line_warned, warned_on, warned_in}
use Rattle.why.proofs.Found.{moves-going}

-- ---- lengths

length-differing : (k : ℕ) (t : Line) (off total exact : ℕ) → length (differing k t off total exact) ≡ differs total exact
unfolding differing differs pick
length-differing k t off total exact = by-test (eqb total exact) (λ e. rw e) (λ e. rw e)

module _ (sh : Sheet) (today : ℕ) where
  -- ---- one line

  -- the line says an entry, with v warnings: its list, behind a total's
  pub listed : (c : Context) (t : Line) {e : Entry} {v : ℕ} {p : Places} → read_line sh today c t.bytes ≡ said e v p
      → (ns : List Notice) × (read_as sh today c (kind_of t.bytes) t.bytes ≡ said e ns p) × (length ns ≡ v)
  unfolding read_line counted
  listed c t {e} {v} {p} q =
      let (ns, r) = counted-said (read_as sh today c (kind_of t.bytes) t.bytes) (sym q) in
      let same : said e (length ns) p ≡ said e v p = sym (ap counted r) ∙ q in
      (ns, r, (same_parts same).1)

  module _ (k : ℕ) (t : Line) (ts : List Line) (c : Context) {e : Entry} {v : ℕ} {p : Places} (q : read_line sh today c t.bytes ≡ said e v p) where
    length-line : (total : ℕ) → ((ns : List Notice) → length (total_warned sh today k t ts c.kind (saying e ns p)) ≡ total) → length (line_warned sh today k t ts c) ≡ total + v
    unfolding line_warned on_listed
    length-line total h =
        let (ns, r, n) = listed c t q in
        rw r
        (length-append (total_warned sh today k t ts c.kind (saying e ns p)) (map (noticed sh today k t p) ns)
        ∙ omega (arith, h ns, n, length-map ns (noticed sh today k t p)))

  -- ---- what is counted and what is listed

  -- the warnings that a state counts
  abbrev count_of : State → ℕ
  count_of at_first = 0
  count_of (at_file x) = x.warnings
  count_of (at_group x) = x.warnings
  count_of (at_item x) = x.warnings
  count_of (stop a) = 0

  -- an open group's total, which is counted where the group closes and listed where it opened
  abbrev pending : State → List Line → ℕ
  pending at_first ts = 0
  pending (at_file x) ts = 0
  pending (at_group x) ts = 0
  pending (at_item x) ts = differs x.head.total (sum (items_of x) + ahead sh today (context_of (at_item x)) ts)
  pending (stop a) ts = 0

  -- an item's line goes on with the sum, any other ends it
  pub ahead-item : (c : Context) (t : Line) (ts : List Line) {i : Item} {v : ℕ} {p : Places} → read_line sh today c t.bytes ≡ said (item i) v p
      → ahead sh today c (t ∷ ts) ≡ i.amount + ahead sh today c ts
  unfolding ahead on_listed on_item on_entry
  ahead-item c t ts q = let (ns, r, n) = listed c t q in rw r

  pub ahead-end : (c : Context) (t : Line) (ts : List Line) {v : ℕ} {p : Places} → read_line sh today c t.bytes ≡ said close_group v p → ahead sh today c (t ∷ ts) ≡ 0
  unfolding ahead on_listed on_item on_entry
  ahead-end c t ts q = let (ns, r, n) = listed c t q in rw r

  -- a line that moves the state on: as many are counted more as are listed, but for an open total
  one_line : (k : ℕ) (t : Line) (ts : List Line) (st new : State) → Moves sh today k t st new
      → count_of new + pending new ts ≡ count_of st + pending st (t ∷ ts) + length (line_warned sh today k t ts (context_of st))
  unfolding total_warned on_group on_entry context_of sum
  one_line k t ts st new (heads (p, q)) = omega (arith, length-line k t ts _ q 0 (λ _. refl))
  one_line k t ts st new (opens few (p, q)) = omega (arith, length-line k t ts _ q 0 (λ _. refl))
  one_line k t ts st new (begins {x = x} {payer = payer} {total = total} {date = date} {p = p} q) =
      let exact = ahead sh today (for_item x.opening.kind date (is_nobody payer)) ts in
      let z : 0 + exact ≡ exact = omega arith in
      rw z (omega (arith, length-line k t ts _ q (differs total exact) (λ _. length-differing k t p.total total exact)))
  one_line k t ts st new (more {x = x} {i = i} free (p, q)) =
      let s : sum (items_of x) + ahead sh today (context_of (at_item x)) (t ∷ ts) ≡ sum (rev_on (i ∷ x.items) []) + ahead sh today (context_of (at_item x)) ts
      = omega (arith, ahead-item _ t ts q, sum-rev x.items [], sum-rev (i ∷ x.items) []) in
      rw s (omega (arith, length-line k t ts _ q 0 (λ _. refl)))
  one_line k t ts st new (closes {x = x} some (p, q) good) =
      let s : sum (items_of x) + ahead sh today (context_of (at_item x)) (t ∷ ts) ≡ sum (items_of x) = omega (arith, ahead-end _ t ts q) in
      rw s (omega (arith, length-line k t ts _ q 0 (λ _. refl)))
  one_line k t ts st new (finishes some (p, q)) = omega (arith, length-line k t ts _ q 0 (λ _. refl))

  -- ---- the whole file

  module _ (size : ℕ) {h : Header} {b : Batch} {w : ℕ} where
    -- the file's end
    at-end : (k : ℕ) (st : State) → stopped st ≡ false → end_of size k st ≡ Accepted h b w → w ≡ count_of st + pending st [] + 0
    unfolding end_of stopped
    at-end k at_first g e = refused e
    at-end k (at_file x) g e =
        by-test (null x.files)
        (λ none. refused (sym (pick_true _ _ none) ∙ e))
        (λ some.
        let same : Accepted x.header (rev_on x.files []) x.warnings ≡ Accepted h b w = sym (pick-false _ _ some) ∙ e in
        let n : x.warnings ≡ w = cc in
        omega arith)
    at-end k (at_group x) g e = refused e
    at-end k (at_item x) g e = refused e
    at-end k (stop a) g e = never g

    -- line k, where the rest of the file is so
    step_counts : (t : Line) (ts : List Line) (k : ℕ) (st new : State) → stopped st ≡ false → step sh today k t st ≡ new → Next sh today size k t ts st new
        → run sh today size (suc k) ts new ≡ Accepted h b w
        → (stopped new ≡ false → w ≡ count_of new + pending new ts + length (warned_on sh today (suc k) ts new))
        → w ≡ count_of st + pending st (t ∷ ts) + length (warned_on sh today k (t ∷ ts) st)
    unfolding warned_on stopped
    step_counts t ts k st new g s (on m) e later =
        rw (s, length-append (line_warned sh today k t ts (context_of st)) (warned_on sh today (suc k) ts new))
        (omega (arith, later (moves-going sh today k t st new m), one_line k t ts st new m))
    step_counts t ts k st new g s (halted x) e later = refused (sym (run-stop sh today size (suc k) ts _) ∙ e)
    step_counts t ts k st new g s stays e later = never g

    -- the lines from line k on
    counts : (ts : List Line) (k : ℕ) (st : State) → stopped st ≡ false → run sh today size k ts st ≡ Accepted h b w
        → w ≡ count_of st + pending st ts + length (warned_on sh today k ts st)
    unfolding run warned_on
    counts [] k st g e = at-end k st g e
    counts (t ∷ ts) k st g e =
        step_counts t ts k st (step sh today k t st) g refl (next sh today size k t ts st) e λ i. counts ts (suc k) (step sh today k t st) i e

  -- Of an accepted file there are as many findings as reading counts warnings.
  pub as_many : (f : List ℕ) (h : Header) (b : Batch) (w : ℕ) → judge sh today f ≡ Accepted h b w → length (warned_in sh today f) ≡ w
  unfolding judge warned_in stopped
  as_many f h b w e = omega (arith, counts (length f) (lines_of 0 f) 1 at_first refl e)

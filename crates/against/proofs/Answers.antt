-- What code answers: a file against a register, had from its answer as ever and its answer with the register's numbers seen before. Assumes nothing.
use mathlib.Core.Path.{◌≡◌, refl, sym, ap, ◌∙◌}
use mathlib.Core.Bool.{Bool, true, false}
use mathlib.Core.List.{List, [], ◌∷◌, ◌++◌}
use Prim.Native.Nat.{ℕ, zero, suc, ◌+◌, ◌*◌, ◌/◌, ◌≤◌, ◌<◌}
use native.Mathlib.Nat.{zero-div}
use native.Mathlib.Omega.{arith}
use lib.ListN.{length, get_or-eq_default}
use borrow.Author.Tests.{eq-eqb, ne_eqb}
use Rattle.base.specs.Pick.{pick}
use Rattle.base.proofs.Cases.{by-test, by-eq, by-lt, either, pick_true, pick-both}
use Rattle.base.proofs.Seek.{never}
use Rattle.sheet.specs.declared.Sheet.{Sheet}
use Rattle.paper.specs.Bytes.{null}
use Rattle.paper.specs.Batch.{Batch, Header, things}
use Rattle.paper.specs.Lines.{Line, first, behind, lines_of}
use Rattle.paper.specs.Entries.{counted, Kind, head_line, file_line, group_line, item_line, group_end, file_end, kind_of}
use Rattle.paper.specs.FileLine.{member}
use Rattle.paper.specs.Spells.{read_as}
use Rattle.paper.specs.Judge.{Answer, Refused, Accepted, State, at_first, at_file, at_group, at_item, stop, seen, rev_on, is}
use Rattle.paper.specs.Judge as judge
use Rattle.fileline.specs.seen.Bits.{bit, Holds}
use Rattle.tally.specs.Short.{Brief, No, Yes, brief, short, tally}
use Rattle.tally.specs.Tally.{Tally, t_first, t_file, t_group, t_item, t_stop, seed, seeded_run, seeded}
use Rattle.tally.specs.Tally as numbers
use Rattle.tally.specs.Abs.{abs}
use Rattle.tally.proofs.Abs.{map-pick}
use Rattle.tally.proofs.Same.{steps, endings, accepted-is}
use Rattle.tally.proofs.Short.{both, tally-is}
use Rattle.register.specs.Marks.{Marks}
use Rattle.register.specs.Register.{Register, used}
use Rattle.against.specs.Against.{day_of, is_other, read_first_on, read_on, line_on, step_on, run_on, judge_on}
use Rattle.against.specs.Turned.{struck, is_nine, turned}
use Rattle.against.proofs.Steps.{NoNine, no-nine-step, Past, past-step, first_past, Threes, same, split, three-steps}

-- ---- the two answers turned into one

-- an answer that both ways give stays
turned_same : (a : Brief) → turned a a ≡ a
unfolding turned is_nine pick
turned_same (Yes h r w) = refl
turned_same (No n l p) =
    by-eq n 9
    (λ e. simp (eq-eqb n 9 e, eq-eqb l l refl, eq-eqb p p refl) (ap (λ (x : ℕ). No x l p) (sym e)))
    (λ e. simp (ne_eqb n 9 e))

-- a 9 that comes with the register's numbers alone is 22
turned-late : (a : Brief) (l p : ℕ) → is_nine l p a ≡ false → turned a (No 9 l p) ≡ No 22 l p
unfolding turned pick
turned-late a l p e = simp e

-- ---- a later line's answer is no 9 at an earlier line

ends-later : (n k i p : ℕ) (st : State) → NoNine i st → is_nine i p (brief (judge.end_of n k st)) ≡ false
unfolding judge.end_of brief is_nine pick
ends-later n k i p at_first q = refl
ends-later n k i p (at_file x) q = by-test (null x.files) (λ e. simp e) (λ e. simp e)
ends-later n k i p (at_group x) q = refl
ends-later n k i p (at_item x) q = refl
ends-later n k i p (stop (Refused m l b)) q =
    by-eq m 9
    (λ e. let far : i < l = q e in simp (eq-eqb m 9 e, ne_eqb i l (λ z. omega arith)))
    (λ e. simp (ne_eqb m 9 e))
ends-later n k i p (stop (Accepted h b w)) q = refl

runs-later : (sh : Sheet) (today n k i p : ℕ) (ts : List Line) (st : State) → i < k → NoNine i st → is_nine i p (brief (judge.run sh today n k ts st)) ≡ false
unfolding judge.run
runs-later sh today n k i p [] st l q = ends-later n k i p st q
runs-later sh today n k i p (t ∷ ts) st l q =
    runs-later sh today n (suc k) i p ts (judge.step sh today k t st) (omega arith) (no-nine-step sh today k t i st l q)

-- ---- what has stopped answers so

run-stop : (sh : Sheet) (today n k : ℕ) (ts : List Line) (a : numbers.Brief) → numbers.run sh today n k ts (t_stop a) ≡ a
unfolding numbers.run numbers.step numbers.end_of
run-stop sh today n k [] a = refl
run-stop sh today n k (t ∷ ts) a = run-stop sh today n (suc k) ts a

on-stop : (reg : Register) (sh : Sheet) (today n k : ℕ) (ts : List Line) (a : Answer) → run_on reg sh today n k ts (stop a) ≡ a
unfolding run_on step_on judge.end_of
on-stop reg sh today n k [] a = refl
on-stop reg sh today n k (t ∷ ts) a = on-stop reg sh today n (suc k) ts a

-- ---- what an accepted file leaves: its own numbers, in front of those that were there

record Grown (u : List ℕ) (h : Header) (m : List ℕ) (r w : ℕ) (a : numbers.Brief) : Type 0 where
  own : List ℕ
  all : m ≡ own ++ u
  plain : a ≡ numbers.Yes h own r w

not_yes : {n l p : ℕ} {h : Header} {m : List ℕ} {r w : ℕ} {A : Type 0} → numbers.No n l p ≡ numbers.Yes h m r w → A
not_yes e = absurd (let z : ◌≡◌ {A = ℕ} 0 1 = cc in omega arith)

end-grown : (u : List ℕ) (t : Bool) (n l p : ℕ) (h' h : Header) (own m : List ℕ) (r' r w' w : ℕ)
    → pick t (numbers.No n l p) (numbers.Yes h' (own ++ u) r' w') ≡ numbers.Yes h m r w
    → Grown u h m r w (pick t (numbers.No n l p) (numbers.Yes h' own r' w'))
unfolding pick
end-grown u true n l p h' h own m r' r w' w e = not_yes e
end-grown u false n l p h' h own m r' r w' w e =
    let x : h' ≡ h = cc in
    let y : own ++ u ≡ m = cc in
    let z : r' ≡ r = cc in
    let v : w' ≡ w = cc in
    record { own = own; all = sym y; plain = rw (x, z, v) }

ends-grown : (u : List ℕ) (n k : ℕ) (st : State) → Past st → (h : Header) (m : List ℕ) (r w : ℕ)
    → numbers.end_of n k (seed u (abs st)) ≡ numbers.Yes h m r w → Grown u h m r w (numbers.end_of n k (abs st))
unfolding abs seed numbers.end_of numbers.brief
ends-grown u n k at_first q h m r w e = absurd q
ends-grown u n k (at_file x) q h m r w e = end-grown u _ _ _ _ x.header h (seen x.files) m _ r x.warnings w e
ends-grown u n k (at_group x) q h m r w e = not_yes e
ends-grown u n k (at_item x) q h m r w e = not_yes e
ends-grown u n k (stop (Refused a b c)) q h m r w e = not_yes e
ends-grown u n k (stop (Accepted a b c)) q h m r w e = absurd q

seed-end : (u : List ℕ) (n k : ℕ) (c : Tally) → short (numbers.end_of n k (seed u c)) ≡ short (numbers.end_of n k c)
unfolding seed numbers.end_of short
seed-end u n k t_first = refl
seed-end u n k (t_file b) = map-pick short _ _ _ ∙ sym (map-pick short _ _ _)
seed-end u n k (t_group b s) = refl
seed-end u n k (t_item b s o) = refl
seed-end u n k (t_stop a) = refl

-- ---- the lines behind the first

module _ (reg : Register) (sh : Sheet) (i : sh.interval ≡ true) (u : List ℕ) (is-used : (n : ℕ) → used reg n ≡ member n u) (today n : ℕ) where
  -- the answer against the register is the two others turned into one
  abbrev Turned : ℕ → List Line → State → State → Tally → Type 0
  Turned k ts a b c = brief (run_on reg sh today n k ts b) ≡ turned (brief (judge.run sh today n k ts a)) (short (numbers.run sh today n k ts c))

  line-turned : (k : ℕ) (ts : List Line) {a b : State} {c : Tally} → Threes u k a b c → Past a
      → ((st : State) → Past st → Turned (suc k) ts st st (seed u (abs st))) → Turned (suc k) ts a b c
  unfolding brief short
  line-turned k ts (same {st = st}) q later = later st q
  line-turned k ts (split {st = st} {p = p} clear) q later =
      rw (on-stop reg sh today n (suc k) ts (Refused 22 k p), run-stop sh today n (suc k) ts (numbers.No 9 k p))
      (sym (turned-late _ k p (runs-later sh today n (suc k) k p ts st (omega arith) clear)))

  run-turned : (k : ℕ) (ts : List Line) (st : State) → Past st → Turned k ts st st (seed u (abs st))
  unfolding run_on judge.run numbers.run
  run-turned k [] st q =
      rw (seed-end u n k (abs st), ← (endings n k st), both (judge.end_of n k st)) (sym (turned_same (brief (judge.end_of n k st))))
  run-turned k (t ∷ ts) st q =
      line-turned k ts (three-steps reg sh i u is-used today k t st q) (past-step sh today k t st q) (run-turned (suc k) ts)

  module _ (h : Header) (m : List ℕ) (r w : ℕ) where
    -- accepted with the register's numbers seen before, the file is accepted as ever, and against the register
    abbrev Grows : ℕ → List Line → State → State → Tally → Type 0
    Grows k ts a b c =
        numbers.run sh today n k ts c ≡ numbers.Yes h m r w
        → Grown u h m r w (numbers.brief (judge.run sh today n k ts a)) × (run_on reg sh today n k ts b ≡ judge.run sh today n k ts a)

    line-grows : (k : ℕ) (ts : List Line) {a b : State} {c : Tally} → Threes u k a b c → Past a
        → ((st : State) → Past st → Grows (suc k) ts st st (seed u (abs st))) → Grows (suc k) ts a b c
    line-grows k ts (same {st = st}) q later e = later st q e
    line-grows k ts (split {st = st} {p = p} clear) q later e = not_yes (sym (run-stop sh today n (suc k) ts (numbers.No 9 k p)) ∙ e)

    run-grows : (k : ℕ) (ts : List Line) (st : State) → Past st → Grows k ts st st (seed u (abs st))
    unfolding run_on judge.run numbers.run
    run-grows k [] st q e = (rw (endings n k st) (ends-grown u n k st q h m r w e), refl)
    run-grows k (t ∷ ts) st q e =
        line-grows k ts (three-steps reg sh i u is-used today k t st q) (past-step sh today k t st q) (run-grows (suc k) ts) e

-- ---- the first line

module _ (reg : Register) (sh : Sheet) (today k : ℕ) (t : Line) where
  -- 23 comes before all that the line may be refused with behind its date
  struck-line : (kind : Kind) → is head_line kind ≡ true → is_other reg (day_of t.bytes) ≡ true
      → line_on reg sh today k t kind at_first ≡ stop (Refused 23 k (t.start + 4))
  unfolding line_on judge.is_due judge.is_full read_on read_first_on judge.on_said counted pick
  struck-line head_line e o = rw o
  struck-line file_line e o = never (sym e)
  struck-line group_line e o = never (sym e)
  struck-line item_line e o = never (sym e)
  struck-line group_end e o = never (sym e)
  struck-line file_end e o = never (sym e)

  -- a line that is not struck is met as ever
  spared-line : (kind : Kind) → pick (is head_line kind) (is_other reg (day_of t.bytes)) false ≡ false
      → line_on reg sh today k t kind at_first ≡ judge.read sh today k t kind at_first
  unfolding line_on judge.read judge.is_due read_on read_first_on read_as pick
  spared-line head_line e = rw e
  spared-line file_line e = refl
  spared-line group_line e = refl
  spared-line item_line e = refl
  spared-line group_end e = refl
  spared-line file_end e = refl

  struck-step : (ts : List Line) → struck reg (t ∷ ts) ≡ true → step_on reg sh today k t at_first ≡ stop (Refused 23 k (t.start + 4))
  unfolding struck step_on
  struck-step ts e = let b = pick-both _ _ e in struck-line (kind_of t.bytes) b.0 b.1

  spared-step : (ts : List Line) → struck reg (t ∷ ts) ≡ false → step_on reg sh today k t at_first ≡ judge.step sh today k t at_first
  unfolding struck step_on judge.step
  spared-step ts e = spared-line (kind_of t.bytes) e

first-seeded : (sh : Sheet) (today k : ℕ) (t : Line) → numbers.step sh today k t t_first ≡ abs (judge.step sh today k t at_first)
unfolding abs
first-seeded sh today k t = sym (steps sh today k t at_first)

-- where the first of the lines starts
abbrev StartsAt : ℕ → List Line → Type 0
StartsAt i [] = Unit {0}
StartsAt i (t ∷ ts) = t.start ≡ i

first-starts : (i b : ℕ) (ts : List Line) → StartsAt i (first i b ts)
first-starts i b [] = refl
first-starts i b (t ∷ ts) = refl

behind-starts : (i : ℕ) (ts : List Line) → StartsAt i (behind i ts)
behind-starts i [] = tt
behind-starts i (t ∷ ts) = refl

lines_start : (i : ℕ) (s : List ℕ) → StartsAt i (lines_of i s)
unfolding lines_of
lines_start i [] = tt
lines_start i (b ∷ s) =
    let rest = lines_of (suc i) s in
    either (StartsAt i) _ (λ _. refl)
    (λ _. either (StartsAt i) _ (λ _. either (StartsAt i) _ (λ _. behind-starts i rest) (λ _. refl)) (λ _. first-starts i b rest))

-- ---- the lines from the top

lines-struck : (reg : Register) (sh : Sheet) (today n : ℕ) (ts : List Line) → StartsAt 0 ts → struck reg ts ≡ true
    → run_on reg sh today n 1 ts at_first ≡ Refused 23 1 4
unfolding run_on struck
lines-struck reg sh today n [] s e = never (sym e)
lines-struck reg sh today n (t ∷ ts) s e =
    rw (struck-step reg sh today 1 t ts e) (on-stop reg sh today n 2 ts _ ∙ ap (λ (p : ℕ). Refused 23 1 (p + 4)) s)

none-turned : (n : ℕ) → brief (judge.end_of n 1 at_first) ≡ turned (brief (judge.end_of n 1 at_first)) (short (numbers.end_of n 1 t_first))
unfolding judge.end_of numbers.end_of brief short turned pick
none-turned n = refl

none-grows : (n : ℕ) {h : Header} {m : List ℕ} {r w : ℕ} {A : Type 0} → numbers.end_of n 1 t_first ≡ numbers.Yes h m r w → A
unfolding numbers.end_of
none-grows n e = not_yes e

module _ (reg : Register) (sh : Sheet) (i : sh.interval ≡ true) (u : List ℕ) (is-used : (n : ℕ) → used reg n ≡ member n u) (today n : ℕ) where
  lines-turned : (ts : List Line) → struck reg ts ≡ false
      → brief (run_on reg sh today n 1 ts at_first) ≡ turned (brief (judge.run sh today n 1 ts at_first)) (short (seeded_run u sh today n ts))
  unfolding run_on judge.run seeded_run
  lines-turned [] e = none-turned n
  lines-turned (t ∷ ts) e =
      rw (spared-step reg sh today 1 t ts e, first-seeded sh today 1 t)
      (run-turned reg sh i u is-used today n 2 ts (judge.step sh today 1 t at_first) (first_past sh today 1 t))

  lines-grow : (h : Header) (m : List ℕ) (r w : ℕ) (ts : List Line) → struck reg ts ≡ false → seeded_run u sh today n ts ≡ numbers.Yes h m r w
      → Grown u h m r w (numbers.brief (judge.run sh today n 1 ts at_first)) × (run_on reg sh today n 1 ts at_first ≡ judge.run sh today n 1 ts at_first)
  unfolding run_on judge.run seeded_run
  lines-grow h m r w [] e y = none-grows n y
  lines-grow h m r w (t ∷ ts) e y =
      rw (spared-step reg sh today 1 t ts e)
      (run-grows reg sh i u is-used today n h m r w 2 ts (judge.step sh today 1 t at_first) (first_past sh today 1 t) (rw (first-seeded sh today 1 t) at y))

-- ---- the whole file

module _ (reg : Register) (sh : Sheet) (today : ℕ) (f : List ℕ) where
  module _ (i : sh.interval ≡ true) where
    on-lines : judge_on reg sh today f ≡ run_on reg sh today (length f) 1 (lines_of 0 f) at_first
    unfolding judge_on
    on-lines = pick_true _ _ i

    -- a first line whose date the register is not for is refused there
    pub strikes : struck reg (lines_of 0 f) ≡ true → judge_on reg sh today f ≡ Refused 23 1 4
    strikes e = on-lines ∙ lines-struck reg sh today (length f) (lines_of 0 f) (lines_start 0 f) e

    module _ (u : List ℕ) (is-used : (n : ℕ) → used reg n ≡ member n u) (e : struck reg (lines_of 0 f) ≡ false) where
      -- else two judgements give the answer
      pub turned-is : brief (judge_on reg sh today f) ≡ turned (tally sh today f) (short (seeded u sh today f))
      unfolding seeded judge.judge
      turned-is = rw (on-lines, tally-is sh today f) (lines-turned reg sh i u is-used today (length f) (lines_of 0 f) e)

      -- accepted, it leaves its own numbers in front of the register's
      pub grown : (h : Header) (m : List ℕ) (r w : ℕ) → seeded u sh today f ≡ numbers.Yes h m r w
          → (b : Batch) × (judge.judge sh today f ≡ Accepted h b w) × (judge_on reg sh today f ≡ Accepted h b w)
          × (r ≡ length (things b)) × (m ≡ seen (rev_on b []) ++ u)
      unfolding seeded judge.judge
      grown h m r w y =
          let (g, alike) = lines-grow reg sh i u is-used today (length f) h m r w (lines_of 0 f) e y in
          let (b, is, rows, own) = accepted-is (judge.run sh today (length f) 1 (lines_of 0 f) at_first) h g.own r w g.plain in
          (b, is, on-lines ∙ (alike ∙ is), rows, g.all ∙ ap (λ (l : List ℕ). l ++ u) own)

-- ---- the numbers that words hold, as a list

-- those below m that are marked
listed : Marks → ℕ → List ℕ
listed p zero = []
listed p (suc m) = pick (p m) (m ∷ listed p m) (listed p m)

module _ (p : Marks) (k : ℕ) where
  above_listed : (m : ℕ) → m ≤ k → member k (listed p m) ≡ false
  unfolding listed member pick
  above_listed zero l = refl
  above_listed (suc m) l =
      by-test (p m) (λ e. simp (e, ne_eqb k m (λ z. omega arith)) (above_listed m (omega arith))) (λ e. simp e (above_listed m (omega arith)))

  below-listed : (m : ℕ) → k < m → member k (listed p m) ≡ p k
  unfolding listed member pick
  below-listed zero l = absurd (omega arith)
  below-listed (suc m) l =
      by-eq k m
      (λ q. by-test (p m) (λ e. simp (e, eq-eqb k m q) (rw q (sym e))) (λ e. simp e (above_listed m (omega arith) ∙ rw q (sym e))))
      (λ q.
      by-test (p m) (λ e. simp (e, ne_eqb k m q) (below-listed m (omega (arith, q)))) (λ e. simp e (below-listed m (omega (arith, q)))))

holds-listed : (words : List ℕ) (m : ℕ) → ((k : ℕ) → m ≤ k → bit words k ≡ false) → Holds words (listed (bit words) m)
holds-listed words m none k =
    by-lt k m (λ l. sym (below-listed (bit words) k m l)) (λ l. none k l ∙ sym (above_listed (bit words) k m l))

behind-words : (words : List ℕ) (k : ℕ) → length words ≤ k / 64 → bit words k ≡ false
unfolding bit
behind-words words k l = rw (get_or-eq_default words 0 l, zero-div)

pub marks-list : (words : List ℕ) → (u : List ℕ) × Holds words u
marks-list words = (listed (bit words) (64 * length words), holds-listed words (64 * length words) (λ k l. behind-words words k (omega arith)))

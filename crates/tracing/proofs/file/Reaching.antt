-- A pass over a file comes from line to line, until judging halts or the file ends. Assumes nothing.
use Rattle.std.proofs.Common.{Some, None, Option, Err, Ok}
use mathlib.Core.Path.{◌≡◌, refl, sym, ap, subst, ◌∙◌}
use mathlib.Core.Bool.{true, false}
use mathlib.Core.List.{List, [], ◌∷◌}
use Prim.Native.Nat.{ℕ, zero, suc, ◌+◌, ◌-◌, ◌≤◌, ◌<◌}
use native.Mathlib.Omega.{arith}
use lib.ListN.{length, drop, replicate, length-take}
use mir.Syntax.{w64}
use mir.Val.{Fits}
use mir.Facts.{Fits-le}
use borrow.Author.Tests.{eq-eqb, ne_eqb}
use Rattle.base.specs.Pick.{pick}
use Rattle.base.proofs.Cases.{pick_true, pick-false}
use Rattle.base.proofs.Seek.{never}
use Rattle.sheet.specs.declared.Sheet.{Sheet}
use Rattle.sheet.proofs.Laws.{Sane}
use Rattle.paper.specs.Batch.{Header, no_header}
use Rattle.paper.specs.Lines.{Line, lines_from}
use Rattle.paper.specs.Entries.{head_line, kind_of}
use Rattle.paper.specs.Judge.{Refused, State, stop, step, run, judge}
use Rattle.paper.specs.Judge as judge
use Rattle.paper.specs.FirstFault.{Broken}
use Rattle.fileline.proofs.seen.Laws.{holds-none}
use Rattle.scan.specs.declared.line.Cut.{Cut}
use Rattle.scan.specs.line.Cutting.{Cuts}
use Rattle.scan.proofs.line.Lines.{at-end}
use Rattle.paper.proofs.Starts.{kind-long}
use Rattle.exact.proofs.Told.{told-line, kind-head}
use Rattle.exact.proofs.Moves.{Moves, heads, Next, on, halted as breaks, stays, next}
use Rattle.exact.proofs.faults.Found.{run-stop}
use Rattle.tally.specs.Tally.{No, Yes, end_of}
use Rattle.tally.specs.Tally as numbers
use Rattle.tally.specs.Abs.{abs}
use Rattle.tally.proofs.Same.{same, refused-is, accepted-is}
use Rattle.tally.proofs.Small.{file-limits}
use Rattle.judge.specs.declared.group.Counts.{Counts}
use Rattle.judge.specs.declared.group.Shelf.{Shelf}
use Rattle.judge.specs.declared.group.Held.{Held}
use Rattle.judge.specs.group.Stands.{line_in}
use Rattle.judge.specs.accountfile.Resume.{LowFile}
use Rattle.why.specs.declared.Finding.{Finding}
use Rattle.why.specs.Finding.{halted, halting, halt_on, found_at, found_in, blame, early}
use Rattle.why.proofs.Found.{moves-going, found-there}
use Rattle.course.specs.declared.Course.{Course}
use Rattle.course.specs.declared.Stage.TheVariants as stage
use Rattle.course.specs.Stands.{numbers_of, Low, LowMove, Stands, Leads}
use Rattle.course.proofs.line.Lifts.{stands-going}
use Rattle.tracing.specs.file.Comes.{Comes, At, Reached, AtEnd}

-- the file's first line
at-start : (sh : Sheet) (today : ℕ) (f : List ℕ) → At sh today f 0 1 (record { from = 0; to = 0; stage = stage.First }) (replicate 16 0) judge.at_first
unfolding judge lines_from abs
at-start sh today f =
    record {
      stands = record { header = no_header; earlier = []; first = refl; last = refl; holds = holds-none 16; fresh = refl; numbers = refl };
      halts = refl;
      runs = refl;
      low = tt;
      inside = omega arith;
      lines = omega arith;
      top = λ zero. refl;
    }

-- before the first line nothing was read
top-first : (st : State) → abs st ≡ numbers.t_first → st ≡ judge.at_first
unfolding abs
top-first judge.at_first e = refl
top-first (judge.at_file x) e = absurd (let z : ◌≡◌ {A = ℕ} 0 1 = cc in omega arith)
top-first (judge.at_group x) e = absurd (let z : ◌≡◌ {A = ℕ} 0 1 = cc in omega arith)
top-first (judge.at_item x) e = absurd (let z : ◌≡◌ {A = ℕ} 0 1 = cc in omega arith)
top-first (stop a) e = absurd (let z : ◌≡◌ {A = ℕ} 0 1 = cc in omega arith)

-- a first line that is read has four bytes or more
pub moves_long : (sh : Sheet) (today k : ℕ) (t : Line) (new : State) → Moves sh today k t judge.at_first new → 4 ≤ length t.bytes
moves_long sh today k t new (heads (p, q)) = kind-long t.bytes head_line (kind-head (told-line sh today _ t.bytes _ q))

head-on : (sh : Sheet) (today size k : ℕ) (t : Line) (ts : List Line) (new : State) → Next sh today size k t ts judge.at_first new → halted new ≡ false → 4 ≤ length t.bytes
unfolding halted
head-on sh today size k t ts new (on m) e = moves_long sh today k t new m
head-on sh today size k t ts new (breaks b) e = never e

head-long : (sh : Sheet) (today size k : ℕ) (t : Line) (ts : List Line) (st : State) → st ≡ judge.at_first → halted (step sh today k t st) ≡ false → 4 ≤ length t.bytes
head-long sh today size k t ts st first e =
    head-on sh today size k t ts (step sh today k t judge.at_first) (next sh today size k t ts judge.at_first) (rw first at e)

-- at the file's start, or behind it
pub by_place : {A : Type 0} (at : ℕ) → (at ≡ 0 → A) → (0 < at → A) → A
by_place zero here behind = here refl
by_place (suc n) here behind = behind (omega arith)

-- a line that stops judging breaks a rule there
halt-breaks : (sh : Sheet) (today size k : ℕ) (t : Line) (ts : List Line) (st new : State) → Next sh today size k t ts st new → halted st ≡ false → halted new ≡ true
    → (n : ℕ) × (l : ℕ) × (p : ℕ) × (new ≡ stop (Refused n l p)) × Broken sh today size k st (t ∷ ts) (Refused n l p)
unfolding halted
halt-breaks sh today size k t ts st new (on m) going e = never (sym e ∙ moves-going sh today k t st new m)
halt-breaks sh today size k t ts st new (breaks {n = n} {l = l} {p = p} b) going e = (n, l, p, refl, b)
halt-breaks sh today size k t ts st new stays going e = never going

module _ (sh : Sheet) (today : ℕ) (f : List ℕ) (at k : ℕ) (x : Course) (words : List ℕ) (st : State) (reached : At sh today f at k x words st) where
  going : halted st ≡ false
  going = stands-going x words st reached.stands

  module _ (cut : Cut) (cuts : Cuts f at cut) where
    here : Line
    here = line_in f at cut.stop

    behind : State
    behind = step sh today k (line_in f at cut.stop) st

    -- the lines from here on
    split-halts : halt_on sh today k (lines_from f at) st
        ≡ pick (halted behind) (halting k (line_in f at cut.stop ∷ lines_from f cut.next) st) (halt_on sh today (suc k) (lines_from f cut.next) behind)
    unfolding halt_on behind
    split-halts = rw cuts.lines

    split_runs : run sh today (length f) k (lines_from f at) st
        ≡ run sh today (length f) (suc k) (lines_from f cut.next) (step sh today k (line_in f at cut.stop) st)
    unfolding run
    split_runs = rw cuts.lines

    -- lines are passed of which the first has four bytes or more, so that no line's number passes its start
    passes-long : halted behind ≡ false → k + 1 ≤ cut.next
    unfolding behind
    passes-long g =
        by_place at
        (λ zero. let first = top-first st (reached.stands.numbers ∙ ap (numbers_of _ _) (reached.top zero)) in
        let long = head-long sh today (length f) k (line_in f at cut.stop) (lines_from f cut.next) st first g in
        omega (arith, long, length-take (cut.stop - at) (drop at f), cuts.to, cuts.from, reached.lines))
        (λ some. omega (arith, reached.lines, cuts.ahead))

    module _ (after : List ℕ) (r : Option Course) (leads : Leads sh today k (line_in f at cut.stop) x words after r) where
      at-fits : (y : Course) → r ≡ Some y → Fits w64 cut.next → Fits w64 (k + 1)
      unfolding behind
      at-fits y e fits =
          let on : (st : State) → Stands x words st → Stands y after (step sh today k (line_in f at cut.stop) st) = rw e at leads in
          Fits-le (passes-long (stands-going y after behind (on st reached.stands))) fits

      -- judging goes on
      at_on : (y : Course) → r ≡ Some y → LowMove r → At sh today f cut.next (k + 1) y after (step sh today k (line_in f at cut.stop) st)
      unfolding behind
      at_on y e low =
          let on : (st : State) → Stands x words st → Stands y after (step sh today k (line_in f at cut.stop) st) = rw e at leads in
          let small : Low y.stage = rw e at low in
          let s = on st reached.stands in
          let g = stands-going y after behind s in
          let one : suc k ≡ k + 1 = omega arith in
          record {
            stands = s;
            halts = reached.halts ∙ (split-halts ∙ (pick-false _ _ g ∙ rw one));
            runs = reached.runs ∙ (split_runs ∙ rw one);
            low = small;
            inside = cuts.inside;
            lines = omega (arith, passes-long g);
            top = λ zero. absurd (omega (arith, cuts.ahead));
          }

      -- judging halts, and z is what is found there
      at-halt : Sane sh → r ≡ None → (z : Finding)
          → ((st : State) → Stands x after st → z ≡ blame sh today f k (line_in f at cut.stop) (kind_of (line_in f at cut.stop).bytes) st)
          → Comes sh today f (Err z)
      unfolding behind found_in found_at
      at-halt sane e z blames =
          let (still, stops) : (after ≡ words) × ((st : State) → Stands x words st → halted (step sh today k (line_in f at cut.stop) st) ≡ true) = rw e at leads in
          let z-is = blames st (subst (λ w. Stands x w st) (sym still) reached.stands) in
          let h = reached.halts ∙ (split-halts ∙ pick_true _ _ (stops st reached.stands)) in
          let found : found_in sh today f ≡ blame sh today f k (line_in f at cut.stop) (kind_of (line_in f at cut.stop).bytes) st = rw h in
          let (n, l, p, stopped, broken) = halt-breaks sh today (length f) k (line_in f at cut.stop) (lines_from f cut.next) st behind (next sh today (length f) k (line_in f at cut.stop) (lines_from f cut.next) st) going (stops st reached.stands) in
          let names = (found-there sh today sane f broken).1 in
          let judged : judge sh today f ≡ Refused n l p = reached.runs ∙ (split_runs ∙ (ap (run sh today (length f) (suc k) (lines_from f cut.next)) stopped ∙ run-stop sh today (length f) (suc k) (lines_from f cut.next) (Refused n l p))) in
          (z-is ∙ sym found, rw z-is (rw (names.number, names.line, names.byte) judged))

  -- ---- the file ends

  module _ (e : length f ≤ at) where
    ends_found : found_in sh today f ≡ early (length f) k st
    unfolding found_in found_at halt_on
    ends_found = rw (reached.halts, at-end f at e)

    ends-brief : numbers.brief (judge sh today f) ≡ end_of (length f) k (numbers_of reached.stands.header reached.stands.earlier x.stage)
    unfolding numbers.run
    ends-brief =
        ap numbers.brief reached.runs
        ∙ (same sh today (length f) k (lines_from f at) st
        ∙ rw (at-end f at e, reached.stands.numbers))

-- early, by what the numbers say
ends-early : (f : List ℕ) (k : ℕ) (x : Course) → ((h : Header) (l : List ℕ) → end_of (length f) k (numbers_of h l x.stage) ≡ No 3 k (length f))
    → (z : Finding) → ((st : State) (words : List ℕ) → Stands x words st → z ≡ early (length f) k st) → AtEnd f k x (Err z)
unfolding early
ends-early f k x ends z is sh today at words e reached =
    let z-is = is reached.state words reached.held.stands in
    let judged = refused-is (judge sh today f) 3 k (length f) (ends-brief sh today f at k x words reached.state reached.held e ∙ ends _ _) in
    (z-is ∙ sym (ends_found sh today f at k x words reached.state reached.held e), rw z-is judged)

module _ (f : List ℕ) (k : ℕ) (x : Course) where
  module _ (z : Finding) (is : (st : State) (words : List ℕ) → Stands x words st → z ≡ early (length f) k st) where
    pub end-first : x.stage ≡ stage.First → AtEnd f k x (Err z)
    unfolding end_of
    end-first e = ends-early f k x (λ h l. rw e) z is

    pub end-group : (c : Counts) (s : Shelf) → x.stage ≡ stage.Group c s → AtEnd f k x (Err z)
    unfolding end_of
    end-group c s e = ends-early f k x (λ h l. rw e) z is

    pub end-item : (y : Held) → x.stage ≡ stage.Item y → AtEnd f k x (Err z)
    unfolding end_of
    end-item y e = ends-early f k x (λ h l. rw e) z is

    pub end_none : (c : Counts) → x.stage ≡ stage.File c → c.files ≡ 0 → AtEnd f k x (Err z)
    unfolding end_of
    end_none c e none = ends-early f k x (λ h l. rw e (pick_true _ _ (eq-eqb c.files 0 none))) z is

  pub end-passed : (c : Counts) → x.stage ≡ stage.File c → (c.files ≡ 0 → ⊥) → AtEnd f k x (Ok (record { rows = c.rows; warnings = c.warnings }))
  unfolding end_of
  end-passed c e some sh today at words long reached =
      let h = reached.held.stands.header in
      let yes : end_of (length f) k (numbers_of h reached.held.stands.earlier x.stage) ≡ Yes h reached.held.stands.earlier c.rows c.warnings = rw e (pick-false _ _ (ne_eqb c.files 0 some)) in
      let (b, judged, n, _) = accepted-is (judge sh today f) h reached.held.stands.earlier c.rows c.warnings (ends-brief sh today f at k x words reached.state reached.held long ∙ yes) in
      let low : LowFile c = rw e at reached.held.low in
      let limits = file-limits _ low in
      record { header = h; batch = b; judged = judged; counted = sym n; rows_low = limits.rows; warnings_low = limits.warnings }

-- ---- with some state

pub reached-start : (sh : Sheet) (today : ℕ) (f : List ℕ) → Reached sh today f 0 1 (record { from = 0; to = 0; stage = stage.First }) (replicate 16 0)
reached-start sh today f = record { state = judge.at_first; held = at-start sh today f }

module _ (sh : Sheet) (today : ℕ) (f : List ℕ) (at k : ℕ) (x : Course) (words : List ℕ) (reached : Reached sh today f at k x words) where
  pub reached-low : Low x.stage
  reached-low = reached.held.low

  module _ (cut : Cut) (cuts : Cuts f at cut) (after : List ℕ) (r : Option Course) (leads : Leads sh today k (line_in f at cut.stop) x words after r) where
    pub line-fits : (y : Course) → r ≡ Some y → Fits w64 cut.next → Fits w64 (k + 1)
    line-fits = at-fits sh today f at k x words reached.state reached.held cut cuts after r leads

    pub reached-on : (y : Course) → r ≡ Some y → LowMove r → Reached sh today f cut.next (k + 1) y after
    reached-on y e low =
        record {
          state = step sh today k (line_in f at cut.stop) reached.state;
          held = at_on sh today f at k x words reached.state reached.held cut cuts after r leads y e low;
        }

    pub reached-halt : Sane sh → r ≡ None → (z : Finding)
        → ((st : State) → Stands x after st → z ≡ blame sh today f k (line_in f at cut.stop) (kind_of (line_in f at cut.stop).bytes) st)
        → Comes sh today f (Err z)
    reached-halt = at-halt sh today f at k x words reached.state reached.held cut cuts after r leads

-- at the file's end
pub reached-end : (f : List ℕ) (k : ℕ) (x : Course) (r : _) → AtEnd f k x r → (sh : Sheet) (today at : ℕ) (words : List ℕ) → Reached sh today f at k x words → length f ≤ at → Comes sh today f r
reached-end f k x r end sh today at words reached e = end sh today at words e reached

-- a line is behind the one before it
pub cut-less : (f : List ℕ) (at : ℕ) (cut : Cut) → Cuts f at cut → length f - cut.next < length f - at
cut-less f at cut cuts = omega (arith, cuts.ahead, cuts.inside)

pub ruleset ends_file = (end-first, end-group, end-item, end_none, end-passed)

pub ruleset reaches = (reached-start, reached-low, line-fits, reached-on, reached-halt, reached-end)

-- Reading on in a group, line by line: the file's answer stays, the place moves on, and the numbers stay small. Assumes nothing.
use mathlib.Core.Path.{◌≡◌, refl, sym, subst, ◌∙◌}
use mathlib.Core.List.{List, [], ◌∷◌}
use Prim.Native.Nat.{ℕ, suc, ◌+◌, ◌-◌, ◌≤◌, ◌<◌}
use native.Mathlib.Numerals.{add-one}
use native.Mathlib.Omega.{arith}
use lib.ListN.{length}
use mir.Syntax.{w64}
use mir.Val.{Fits}
use mir.Facts.{Fits-le}
use Rattle.std.proofs.Common.{Result, Ok, Err}
use Rattle.base.specs.Pick.{pick}
use Rattle.refusal.specs.declared.Refusal.TheVariants.{BadOrder}
use Rattle.refusal.specs.Numbers.{number_of}
use Rattle.base.proofs.Cases.{by-test}
use Rattle.sheet.specs.declared.Sheet.{Sheet}
use Rattle.sheet.proofs.Laws.{Sane}
use Rattle.paper.specs.Batch.{Header, no_header}
use Rattle.paper.specs.Lines.{Line, lines_from}
use Rattle.paper.specs.Spells.{differs}
use Rattle.paper.specs.Judge.{total_broken}
use Rattle.scan.specs.declared.line.Cut.{Cut}
use Rattle.scan.specs.line.Cutting.{Cuts}
use Rattle.scan.proofs.line.Lines.{at-end}
use Rattle.calendar.specs.declared.term.Banks.{Banks}
use Rattle.tally.specs.Tally.{Brief, No, Tally, t_stop, warned, group_more, closed, step, end_of, run}
use Rattle.tally.specs.Small.{SmallGroup, Small}
use Rattle.tally.proofs.Small.{small-step}
use Rattle.judge.specs.declared.group.Counts.{Counts}
use Rattle.judge.specs.declared.group.Shelf.{Shelf}
use Rattle.judge.specs.declared.group.Held.{Held}
use Rattle.judge.specs.declared.group.Turn.{Turn}
use Rattle.judge.specs.declared.group.Turn.TheVariants as turn
use Rattle.judge.specs.declared.group.GroupEnd.{GroupEnd}
use Rattle.judge.specs.declared.refused.Refused.{Refused}
use Rattle.judge.specs.refused.Lined.{refused}
use Rattle.itemline.specs.declared.judge.Judged.{Judged}
use Rattle.judge.specs.group.Stands.{book_of, shelf_of, in_group, LowItem, LowGroup, line_in, held_more, turned, Banked, Turns, closed_as, resume_group, Begun, Behind, Ended}

-- ---- lines

-- an answer stays as it is
pub run-stop : (sh : Sheet) (today n k : ℕ) (ts : List Line) (a : Brief) → run sh today n k ts (t_stop a) ≡ a
unfolding run step end_of
run-stop sh today n k [] a = refl
run-stop sh today n k (t ∷ ts) a = run-stop sh today n (suc k) ts a

-- the line that starts at `at` leads to c', and the other lines are read from there
module _ (sh : Sheet) (today n k : ℕ) (f : List ℕ) (at : ℕ) (cut : Cut) (cuts : Cuts f at cut) where
  pub run-on : (c c' : Tally) → c' ≡ step sh today k (line_in f at cut.stop) c → run sh today n (k + 1) (lines_from f cut.next) c' ≡ run sh today n k (lines_from f at) c
  unfolding run
  run-on c c' e = rw (cuts.lines, e, add-one)

  -- .. which ends it
  pub run-stops : (c : Tally) (a : Brief) → t_stop a ≡ step sh today k (line_in f at cut.stop) c → a ≡ run sh today n k (lines_from f at) c
  run-stops c a e = sym (run-stop sh today n (k + 1) (lines_from f cut.next) a) ∙ run-on c (t_stop a) e

-- ---- what is small stays so

module _ (sh : Sheet) (sane : Sane sh) (today k : ℕ) (t : Line) where
  pub small-on : (c c' : Tally) → c' ≡ step sh today k t c → Small c → Small c'
  small-on c c' e small = subst Small (sym e) (small-step sh sane today k t c small)

-- ---- a closed group

-- as the machine closes it
closed_same : (sh : Sheet) (today : ℕ) (f : List ℕ) (h : Header) (l : List ℕ) (at k : ℕ) (x : Held)
    → resume_group sh today f h l (closed_as sh.strict at k x) ≡ run sh today (length f) k (lines_from f at) (turned sh k h l x (Ok turn.Close))
unfolding closed_as closed resume_group pick
closed_same sh today f h l at k x =
    let o = x.opened in
    let w = x.counts.warnings in
    let d : w + (0 + differs o.total o.sum) ≡ w + differs o.total o.sum = omega arith in
    by-test (total_broken sh.strict o.total o.sum) (λ e. simp e (sym (run-stop sh today (length f) k (lines_from f at) _))) (λ e. simp (e, d))

closed-low : (c : Counts) (s : Shelf) (d : ℕ) → SmallGroup (warned (book_of no_header [] c) (0 + d)) (group_more (shelf_of s))
    → LowGroup (record { files = c.files; items = c.items; rows = c.rows; warnings = c.warnings + d }) (record { kind = s.kind; items = s.items; groups = s.groups + 1 })
closed-low c s d y =
    record { files = y.files; items = y.items; rows = y.rows; warnings = omega (arith, y.warnings); shelf = y.shelf; groups = y.groups }

closed-behind : (sh : Sheet) (f : List ℕ) (from at k : ℕ) (x : Held) → Small (turned sh k no_header [] x (Ok turn.Close))
    → from < at → at ≤ length f → k ≤ at → Behind f from (closed_as sh.strict at k x)
unfolding closed_as closed Small pick
closed-behind sh f from at k x small p q r =
    let o = x.opened in
    by-test (total_broken sh.strict o.total o.sum) (λ e. simp e tt)
    (λ e. simp e (p, q, r, closed-low x.counts x.shelf (differs o.total o.sum) (simp e at small)))

-- ---- the loop: reading began at `from` with line j, and stands at `at` with line k

pub record Going (sh : Sheet) (today : ℕ) (banks : Banks) (f : List ℕ) (from j : ℕ) (x₀ : Held) (at k : ℕ) (x : Held) : Type 0 where
  pub begun : Begun f at k x
  pub banked : Banked sh today banks x
  pub on : from ≤ at
  pub same : (h : Header) (l : List ℕ)
      → run sh today (length f) k (lines_from f at) (in_group h l x) ≡ run sh today (length f) j (lines_from f from) (in_group h l x₀)

pub going_start : (sh : Sheet) (today : ℕ) (banks : Banks) (f : List ℕ) (at k : ℕ) (x : Held) → Begun f at k x → Banked sh today banks x → Going sh today banks f at k x at k x
going_start sh today banks f at k x b d = record { begun = b; banked = d; on = omega arith; same = λ h l. refl }

module _ (sh : Sheet) (today : ℕ) (banks : Banks) (f : List ℕ) (from j : ℕ) (x₀ : Held) (at k : ℕ) (x : Held) (going : Going sh today banks f from j x₀ at k x) where
  -- the file ends in the group
  pub going_end : length f ≤ at → Ended sh today f from j x₀ (refused BadOrder k at)
  unfolding run end_of resume_group
  going_end e =
      let z : at ≡ length f = omega (arith, going.begun.inside) in
      record {
        same = λ h l. rw z (sym (sym (going.same h l) ∙ rw (at-end f at (omega arith))));
        behind = tt;
      }

  -- a line: r is what it says, v the variant that this was found to be
  module _ (cut : Cut) (cuts : Cuts f at cut) where
    -- the next line's number
    next-line : k + 1 ≤ cut.next
    next-line = omega (arith, going.begun.lines, cuts.ahead)

    pub line-fits : Fits w64 cut.next → Fits w64 (k + 1)
    line-fits fits = Fits-le next-line fits

    module _ (r : Result Turn Refused) (turns : (day : ℕ) → Banked sh day banks x → Turns sh day k (line_in f at cut.stop) x r) where
      says : (v : Result Turn Refused) → r ≡ v → Turns sh today k (line_in f at cut.stop) x v
      says v e = rw e at (turns today going.banked)

      leads : (v : Result Turn Refused) → r ≡ v → (h : Header) (l : List ℕ)
          → run sh today (length f) (k + 1) (lines_from f cut.next) (turned sh k h l x v) ≡ run sh today (length f) j (lines_from f from) (in_group h l x₀)
      leads v e h l =
          run-on sh today (length f) k f at cut cuts (in_group h l x) (turned sh k h l x v) ((says v e).same h l) ∙ going.same h l

      stays-small : Sane sh → (v : Result Turn Refused) → r ≡ v → Small (turned sh k no_header [] x v)
      unfolding Small
      stays-small sane v e =
          small-on sh sane today k (line_in f at cut.stop) (in_group no_header [] x) (turned sh k no_header [] x v) ((says v e).same no_header []) going.begun.low

      -- .. an item
      module _ (sane : Sane sh) (v : Turn) (a : r ≡ Ok v) (i : Judged) (b : v ≡ turn.Item i) where
        item : r ≡ Ok (turn.Item i)
        item = rw b at a

        pub going-low : LowItem (held_more x i.amount i.warnings)
        unfolding Small
        going-low = stays-small sane (Ok (turn.Item i)) item

        pub going-item : (y : Held) → y ≡ held_more x i.amount i.warnings → Going sh today banks f from j x₀ cut.next (k + 1) y
        unfolding held_more
        going-item y q =
            rw q
            (record {
              begun = record { inside = cuts.inside; lines = next-line; low = going-low };
              banked = going.banked;
              on = omega (arith, going.on, cuts.ahead);
              same = leads (Ok (turn.Item i)) item;
            })

      -- .. refused
      pub going-stop : (y : Refused) → r ≡ Err y → Ended sh today f from j x₀ (Err y)
      unfolding resume_group
      going-stop y e =
          record {
            same = λ h l. sym (run-stop sh today (length f) (k + 1) (lines_from f cut.next) (No (number_of y.refusal) y.line y.byte)) ∙ leads (Err y) e h l;
            behind = tt;
          }

      -- .. closed
      pub going-close : Sane sh → (v : Turn) → r ≡ Ok v → v ≡ turn.Close → (g : Result GroupEnd Refused) → g ≡ closed_as sh.strict cut.next (k + 1) x → Ended sh today f from j x₀ g
      going-close sane v a b g q =
          let e : r ≡ Ok turn.Close = rw b at a in
          rw q
          (record {
            same = λ h l. closed_same sh today f h l cut.next (k + 1) x ∙ leads (Ok turn.Close) e h l;
            behind = closed-behind sh f from cut.next (k + 1) x (stays-small sane (Ok turn.Close) e) (omega (arith, going.on, cuts.ahead)) cuts.inside next-line;
          })

-- a line is behind the one before it
pub line-less : (f : List ℕ) (at : ℕ) (cut : Cut) → Cuts f at cut → length f - cut.next < length f - at
line-less f at cut cuts = omega (arith, cuts.ahead, cuts.inside)

pub ruleset goings = (going_start, going_end, line-fits, line-less, going-low, going-item, going-stop, going-close)

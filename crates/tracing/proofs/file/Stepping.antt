-- A line, or the lines of a group, lead a pass on, or to what the file comes to. Assumes nothing.
use Rattle.std.proofs.Common.{Some, None, Option, Err, Result}
use mathlib.Core.Path.{◌≡◌, refl}
use mathlib.Core.List.{List}
use Prim.Native.Nat.{ℕ, ◌+◌, ◌-◌, ◌≤◌, ◌<◌}
use native.Mathlib.Omega.{arith}
use lib.ListN.{length}
use mir.Syntax.{w64}
use mir.Val.{Fits}
use Rattle.sheet.specs.declared.Sheet.{Sheet}
use Rattle.sheet.proofs.Laws.{Sane}
use Rattle.paper.specs.Entries.{kind_of}
use Rattle.paper.specs.Judge.{State}
use Rattle.scan.specs.declared.line.Cut.{Cut}
use Rattle.scan.specs.line.Cutting.{Cuts}
use Rattle.judge.specs.declared.group.Held.{Held}
use Rattle.judge.specs.declared.group.GroupEnd.{GroupEnd}
use Rattle.judge.specs.group.Stands.{line_in, Begun}
use Rattle.why.specs.declared.Finding.{Finding}
use Rattle.why.specs.Finding.{blame}
use Rattle.course.specs.declared.Course.{Course}
use Rattle.course.specs.declared.Stage.TheVariants as stage
use Rattle.course.specs.Stands.{LowMove, Stands, Leads, at_group, at_item}
use Rattle.tracing.specs.declared.file.Tallied.{Tallied}
use Rattle.std.specs.declared.ops.ControlFlow.{ControlFlow}
use Rattle.std.specs.declared.ops.ControlFlow.TheVariants.{Continue, Break}
use Rattle.tracing.specs.declared.file.Mark.{Mark}
use Rattle.tracing.specs.declared.group.Far.{Far}
use Rattle.tracing.specs.declared.group.Far.TheVariants as far
use Rattle.tracing.specs.file.Comes.{Comes, Reached, AtEnd}
use Rattle.tracing.specs.file.Steps.{Steps, Met}
use Rattle.tracing.specs.group.Along.{Goes, Through}
use Rattle.tracing.proofs.file.Reaching.{by_place, line-fits, reached-on, reached-halt}

-- ---- one line: m is what it leads to

module _ (sh : Sheet) (today : ℕ) (f : List ℕ) (at : ℕ) (cut : Cut) (k : ℕ) (x : Course) (after : List ℕ) (m : Option Course) (met : Met sh today f at cut k x after m) where
  pub met-fits : (y : Course) → m ≡ Some y → Fits w64 cut.next → Fits w64 (k + 1)
  met-fits = line-fits sh today f at k x met.before met.reached cut met.cuts after m met.leads

  pub met-on : (y : Course) → m ≡ Some y → Steps sh today f at after (Continue (record { at = cut.next; line = k + 1; x = y }))
  met-on y e = (reached-on sh today f at k x met.before met.reached cut met.cuts after m met.leads y e met.low, met.cuts.ahead)

  pub met-halted : m ≡ None → Met sh today f at cut k x after None
  met-halted e = rw e at met

pub ruleset mets = (met-fits, met-on, met-halted)

-- .. where judging halts

module _ (sh : Sheet) (today : ℕ) (f : List ℕ) (at : ℕ) (cut : Cut) (k : ℕ) (x : Course) (after : List ℕ) (met : Met sh today f at cut k x after None) where
  pub halt-from : at ≤ cut.stop
  halt-from = met.cuts.from

  pub halt-to : cut.stop ≤ length f
  halt-to = omega (arith, met.cuts.to, met.cuts.inside)

  pub halt-found : Sane sh → (z : Finding)
      → ((st : State) → Stands x after st → z ≡ blame sh today f k (line_in f at cut.stop) (kind_of (line_in f at cut.stop).bytes) st)
      → Comes sh today f (Err z)
  halt-found sane = reached-halt sh today f at k x met.before met.reached cut met.cuts after None met.leads sane refl

pub ruleset halts = (halt-from, halt-to, halt-found)

-- ---- the lines of a group: r is how far a pass comes along them

module _ (sh : Sheet) (today : ℕ) (f : List ℕ) (at k from to : ℕ) (x : Held) (words : List ℕ) (reached : Reached sh today f at k (at_item from to x) words) where
  -- a group does not begin the file
  pub reached-begun : Begun f at k x
  reached-begun =
      let h = reached.held in
      record {
        inside = h.inside;
        lines = by_place at (λ zero. absurd (let z : ◌≡◌ {A = ℕ} 0 1 = let e : stage.Item x ≡ stage.First = h.top zero in cc in omega arith)) (λ some. omega (arith, h.lines));
        low = h.low;
      }

  module _ (r : Far) (through : Through sh today f at k x r) where
    goes : (v : Far) → r ≡ v → Goes sh today f at from to words v
    goes v e = rw e at (through from to words reached)

    pub far-closed : (e : GroupEnd) → r ≡ far.Closed e → (v : ControlFlow (Result Tallied Finding) Mark) → v ≡ Continue (record { at = e.at; line = e.line; x = at_group from to e.counts e.shelf }) → Steps sh today f at words v
    far-closed e z v q = rw q (goes (far.Closed e) z)

    pub far-halt : (there : ℕ) (cut : Cut) (j : ℕ) (y : Held) → r ≡ far.Halt there cut j y → (x : Course) → x ≡ at_item from to y → Met sh today f there cut j x words None
    far-halt there cut j y e x q = rw q (goes (far.Halt there cut j y) e)

    pub far-end : (there j : ℕ) (y : Held) → r ≡ far.Ended there j y → (x : Course) → x ≡ at_item from to y → (o : Result Tallied Finding) → AtEnd f j x o → Steps sh today f at words (Break o)
    far-end there j y e x q o end = let (h, long) = goes (far.Ended there j y) e in end sh today there words long (rw q h)

-- the file is over
pub over : (sh : Sheet) (today : ℕ) (f : List ℕ) (at : ℕ) (words : List ℕ) (o : Result Tallied Finding) → Comes sh today f o → Steps sh today f at words (Break o)
over sh today f at words o comes = comes

pub ruleset fars = (reached-begun, far-closed, far-halt, far-end, over)

-- ---- a line where the pass stands at x, whose stage was found to be s

module _ (sh : Sheet) (today : ℕ) (f : List ℕ) (at k : ℕ) (x : Course) (words : List ℕ) (reached : Reached sh today f at k x words) where
  pub in-stage : (y : Held) → x.stage ≡ stage.Item y → Reached sh today f at k (at_item x.from x.to y) words
  in-stage y e = rw e at reached

  pub met-line : (cut : Cut) → Cuts f at cut → (after : List ℕ) (m : Option Course) → Leads sh today k (line_in f at cut.stop) x words after m → LowMove m → Met sh today f at cut k x after m
  met-line cut cuts after m leads low = record { before = words; reached = reached; cuts = cuts; leads = leads; low = low }

-- ---- a step of the loop: r is where it led

module _ (sh : Sheet) (today : ℕ) (f : List ℕ) (at : ℕ) (words : List ℕ) (r : ControlFlow (Result Tallied Finding) Mark) (steps : Steps sh today f at words r) where
  pub step-on : (m : Mark) → r ≡ Continue m → Reached sh today f m.at m.line m.x words
  step-on m e = let s : Steps sh today f at words (Continue m) = rw e at steps in s.0

  pub step_less : (m : Mark) → r ≡ Continue m → at < length f → length f - m.at < length f - at
  step_less m e inside = let s : Steps sh today f at words (Continue m) = rw e at steps in omega (arith, s.1)

  pub step-over : (o : Result Tallied Finding) → r ≡ Break o → Comes sh today f o
  step-over o e = let s : Steps sh today f at words (Break o) = rw e at steps in s

pub ruleset steps = (in-stage, met-line, step-on, step_less, step-over)

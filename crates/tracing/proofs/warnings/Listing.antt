-- All warnings of an accepted file are put, line after line. Assumes nothing.
use mathlib.Core.Path.{◌≡◌, refl, sym, ◌∙◌}
use mathlib.Core.Bool.{true, false}
use mathlib.Core.List.{List, [], ◌++◌, append-nil, append_assoc}
use Prim.Native.Nat.{ℕ, suc, ◌+◌, ◌-◌, ◌≤◌, min}
use native.Mathlib.Omega.{arith}
use lib.ListN.{length, drop, length-take}
use mir.Syntax.{w64}
use mir.Val.{Fits}
use mir.Facts.{Fits-le}
use Rattle.paper.specs.Lines.{lines_from}
use Rattle.paper.specs.Judge.{State, at_first, context_of, step, judge}
use Rattle.scan.specs.declared.line.Cut.{Cut}
use Rattle.scan.specs.line.Cutting.{Cuts}
use Rattle.scan.proofs.line.Lines.{at-end}
use Rattle.numeral.specs.counted.Counted.{Counted}
use Rattle.numeral.proofs.counted.Laws.{◌counted-then◌}
use Rattle.why.specs.Finding.{accepts}
use Rattle.why.specs.declared.Finding.{Finding}
use Rattle.why.specs.Warned.{line_warned, warned_on, warned_in}
use Rattle.listing.specs.declared.Telling.{Telling}
use Rattle.listing.specs.Listed.{listed}
use Rattle.listing.specs.group.Warned.{line_in}
use Rattle.listing.proofs.Putting.{none-put, listed-append}
use Rattle.tracing.specs.declared.warnings.Step.{Step}
use Rattle.tracing.specs.warnings.Passing.{Stands, Passes, Puts}
use Rattle.tracing.proofs.file.Reaching.{moves_long, by_place, cut-less}
use Rattle.tracing.proofs.warnings.Puts.{moved}

-- A pass has come with x to line k, which starts at `at`; what the lines before it warn of stands in o', from `to` up to where x goes on.
pub record Listing (t : Telling) (f o : List ℕ) (to at k : ℕ) (x : Step) (o' : List ℕ) : Type 0 where
  pub state : State
  pub stands : Stands t f at k x state
  pub done : List Finding
  pub rest : warned_in t.sheet t.today f ≡ done ++ warned_on t.sheet t.today k (lines_from f at) state
  pub put : Counted o to (listed t f done) o' x.next
  pub inside : at ≤ length f
  pub lines : k ≤ at + 1 - min at 1
  pub top : at ≡ 0 → state ≡ at_first

pub listing_start : (t : Telling) (f o : List ℕ) (to : ℕ) → accepts (judge t.sheet t.today f) ≡ true
    → Listing t f o to 0 1 (record { next = to; kind = 0; single = false }) o
unfolding judge warned_in lines_from
listing_start t f o to a =
    record {
      state = at_first;
      stands = record { keeps = tt; accepted = a };
      done = [];
      rest = refl;
      put = none-put t f;
      inside = omega arith;
      lines = omega arith;
      top = λ zero. refl;
    }

module _ (t : Telling) (f o : List ℕ) (to at k : ℕ) (x : Step) (o' : List ℕ) (l : Listing t f o to at k x o') where
  pub listing-passes : Passes t f at k x
  listing-passes = record { state = l.state; stands = l.stands }

  pub listing-long : length o' ≡ length o
  listing-long = l.put.long

  -- the file ends
  pub listing-end : length f ≤ at → Counted o to (listed t f (warned_in t.sheet t.today f)) o' x.next
  unfolding warned_on
  listing-end z =
      let all : warned_in t.sheet t.today f ≡ l.done = l.rest ∙ rw (at-end f at z) (append-nil l.done) in
      rw all l.put

  module _ (cut : Cut) (cuts : Cuts f at cut) where
    -- the first line has four bytes or more, so that no line's number passes its start
    passes-long : k + 1 ≤ cut.next
    passes-long =
        by_place at
        (λ zero.
        let long = moves_long t.sheet t.today k (line_in f at cut.stop) _ (rw (l.top zero) at (moved t f at cut cuts k x l.state l.stands)) in
        omega (arith, long, length-take (cut.stop - at) (drop at f), cuts.to, cuts.from, l.lines))
        (λ some. omega (arith, l.lines, cuts.ahead))

    pub listing-fits : Fits w64 cut.next → Fits w64 (k + 1)
    listing-fits fits = Fits-le passes-long fits

    pub listing-on : (o'' : List ℕ) (y : Step) → Puts t f at cut k x o' o'' y → Listing t f o to cut.next (k + 1) y o''
    unfolding warned_on
    listing-on o'' y puts =
        let st = l.state in
        let p = puts st l.stands in
        let here = line_warned t.sheet t.today k (line_in f at cut.stop) (lines_from f cut.next) (context_of st) in
        let one : suc k ≡ k + 1 = omega arith in
        record {
          state = step t.sheet t.today k (line_in f at cut.stop) st;
          stands = p.stands;
          done = l.done ++ here;
          rest = l.rest ∙ (rw (cuts.lines, one) (sym (append_assoc l.done here _)));
          put = rw (listed-append t f l.done here) (l.put counted-then p.put);
          inside = cuts.inside;
          lines = omega (arith, passes-long);
          top = λ zero. absurd (omega (arith, cuts.ahead));
        }

pub ruleset listings = (listing_start, listing-passes, listing-long, listing-end, listing-fits, listing-on, cut-less)

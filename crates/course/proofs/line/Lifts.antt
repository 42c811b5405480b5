-- What a line does to the judge's numbers it does to where the pass stands. Assumes nothing.
use Rattle.std.proofs.Common.{Some, None}
use mathlib.Core.Path.{◌≡◌, refl, sym, ap, ◌∙◌}
use mathlib.Core.Bool.{Bool, true, false}
use mathlib.Core.List.{List}
use Prim.Native.Nat.{ℕ}
use Rattle.sheet.specs.declared.Sheet.{Sheet}
use Rattle.paper.specs.Batch.{Header}
use Rattle.paper.specs.Lines.{Line}
use Rattle.paper.specs.Judge.{State, at_first, at_file, at_group, at_item, stop}
use Rattle.paper.specs.Judge as judge
use Rattle.fileline.specs.seen.Bits.{Holds}
use Rattle.tally.specs.Tally.{Brief, Tally, t_first, t_file, t_group, t_item, t_stop, step}
use Rattle.tally.specs.Abs.{abs}
use Rattle.tally.proofs.Same.{steps}
use Rattle.why.specs.Finding.{halted}
use Rattle.course.specs.declared.Stage.{Stage}
use Rattle.course.specs.declared.Stage.TheVariants as stage
use Rattle.course.specs.declared.Course.{Course}
use Rattle.course.specs.Stands.{numbers_of, Fresh, Stands, Leads}

-- have the numbers come to an answer?
abbrev ended : Tally → Bool
ended t_first = false
ended (t_file b) = false
ended (t_group b s) = false
ended (t_item b s o) = false
ended (t_stop a) = true

halted-is : (st : State) → halted st ≡ ended (abs st)
unfolding halted abs
halted-is at_first = refl
halted-is (at_file x) = refl
halted-is (at_group x) = refl
halted-is (at_item x) = refl
halted-is (stop a) = refl

-- where a pass stands judging goes on
stage-going : (h : Header) (l : List ℕ) (s : Stage) → ended (numbers_of h l s) ≡ false
stage-going h l stage.First = refl
stage-going h l (stage.File c) = refl
stage-going h l (stage.Group c s) = refl
stage-going h l (stage.Item x) = refl

pub stands-going : (x : Course) (words : List ℕ) (st : State) → Stands x words st → halted st ≡ false
stands-going x words st s = halted-is st ∙ (ap ended s.numbers ∙ stage-going s.header s.earlier x.stage)

-- header and earlier numbers with which the pass stands at x
pub record Known (x : Course) (words : List ℕ) (h : Header) (l : List ℕ) : Type 0 where
  pub first : h.from ≡ x.from
  pub last : h.to ≡ x.to
  pub holds : Holds words l
  pub fresh : Fresh x.stage l

known_of : {x : Course} {words : List ℕ} {st : State} (s : Stands x words st) → Known x words s.header s.earlier
known_of s = record { first = s.first; last = s.last; holds = s.holds; fresh = s.fresh }

module _ (sh : Sheet) (today k : ℕ) (t : Line) (x : Course) (before : List ℕ) where
  -- the line stops the judge
  pub leads-halt : (b : Brief) → ((h : Header) (l : List ℕ) → Known x before h l → t_stop b ≡ step sh today k t (numbers_of h l x.stage))
      → Leads sh today k t x before before None
  leads-halt b e = (
    refl,
    λ st s.
        halted-is (judge.step sh today k t st)
        ∙ ap ended (steps sh today k t st ∙ (ap (step sh today k t) s.numbers ∙ sym (e s.header s.earlier (known_of s)))),
  )

  -- the line leads to y
  pub leads-on : (after : List ℕ) (y : Course)
      → ((h : Header) (l : List ℕ) → Known x before h l
      → (g : Header) × (m : List ℕ) × Known y after g m × (numbers_of g m y.stage ≡ step sh today k t (numbers_of h l x.stage)))
      → Leads sh today k t x before after (Some y)
  leads-on after y e st s =
      let (g, m, kept, q) = e s.header s.earlier (known_of s) in
      record {
        header = g;
        earlier = m;
        first = kept.first;
        last = kept.last;
        holds = kept.holds;
        fresh = kept.fresh;
        numbers = steps sh today k t st ∙ (ap (step sh today k t) s.numbers ∙ sym q);
      }

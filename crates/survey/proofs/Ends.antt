-- The outcome behind the last row. Assumes nothing.
use mathlib.Core.Path.{◌≡◌}
use mathlib.Core.Bool.{Bool, true, false, not}
use borrow.Author.Tests.{not-true, not-false}
use mathlib.Core.List.{[]}
use Prim.Native.Nat.{ℕ, ◌+◌}
use Rattle.std.proofs.Common.{Some, None}
use Rattle.base.specs.Pick.{pick}
use Rattle.sheet.specs.declared.Sheet.{Sheet}
use Rattle.paper.specs.Batch.{Header}
use Rattle.paper.specs.Proper.{check, may_stop, rows_proper}
use Rattle.paper.specs.Carried.{Place, rows_carried}
use Rattle.roundtrip.specs.flat.Count.{file_closing, count}
use Rattle.rows.specs.walk.Walks.{before_of}
use Rattle.survey.specs.declared.state.Found.{Found}
use Rattle.survey.specs.declared.state.State.{State}
use Rattle.survey.specs.state.Stands.{improper, unfit, fits, kept, survey_of, resume}

-- stop is whether the rows may end here
module _ (sh : Sheet) (today : ℕ) (h : Header) (p : Place) (k : ℕ) (st : State) (stop : Bool) (may : stop ≡ may_stop (before_of st.before).stage) where
  -- 20: a row is missing
  pub end-missing : not stop ≡ true → improper k 0 ≡ resume sh today h k p st []
  unfolding resume survey_of rows_proper check pick
  end-missing e = rw (← may, not-true stop e)

  module _ (e : not stop ≡ false) where
    pub end-unfit : (w : Found) → st.found ≡ Some w → unfit w.row w.field ≡ resume sh today h k p st []
    unfolding resume survey_of kept rows_proper check pick
    end-unfit w f = rw (← may, not-false stop e, f)

    pub end_fits : st.found ≡ None → (n : ℕ) → n ≡ st.bytes + file_closing (before_of st.before).stage st.before.sum → fits n ≡ resume sh today h k p st []
    unfolding resume survey_of kept rows_proper rows_carried count check pick
    end_fits f n c = rw (← may, not-false stop e, f, c)

pub ruleset ends = (end-missing, end-unfit, end_fits)

-- The answers of the small questions, with what the code knows at each. Assumes nothing.
use mathlib.Core.Path.{◌≡◌}
use Prim.Native.Nat.{ℕ, ◌+◌}
use Rattle.std.proofs.Common.{Option, Some, None, Result, Ok, Err}
use lib.ListN.{length}
use Rattle.paper.specs.Proper.{Verdict, wrong}
use Rattle.paper.specs.Numerals.{decimal}
use Rattle.roundtrip.specs.flat.Count.{group_closing, file_closing}
use Rattle.rows.specs.declared.walk.Stage.{Stage}
use Rattle.rows.specs.declared.walk.Stage.TheVariants as stage
use Rattle.rows.specs.walk.Walks.{stage_of}
use Rattle.survey.specs.declared.state.Found.{Found}
use Rattle.survey.specs.state.Stands.{kept, Tests}

-- ---- bytes that close what is open

module _ (st : Stage) (sum : ℕ) where
  pub file-closing-top : st ≡ stage.NeedFile → 0 ≡ file_closing (stage_of st) sum
  unfolding file_closing
  file-closing-top e = rw e

  pub file-closing-empty : st ≡ stage.NeedGroup → 0 ≡ file_closing (stage_of st) sum
  unfolding file_closing
  file-closing-empty e = rw e

  pub group-closing-top : st ≡ stage.NeedFile → 0 ≡ group_closing (stage_of st) sum
  unfolding group_closing
  group-closing-top e = rw e

  pub group-closing-empty : st ≡ stage.NeedGroup → 0 ≡ group_closing (stage_of st) sum
  unfolding group_closing
  group-closing-empty e = rw e

  -- w is how many digits the open group's total has
  module _ (w : ℕ) (width : w ≡ length (decimal sum)) where
    pub file-closing-bare : st ≡ stage.NeedItem → w ≡ file_closing (stage_of st) sum
    unfolding file_closing
    file-closing-bare e = rw (e, width)

    pub file-closing-open : st ≡ stage.Any → w + 10 ≡ file_closing (stage_of st) sum
    unfolding file_closing
    file-closing-open e = rw (e, width)

    pub group-closing-bare : st ≡ stage.NeedItem → w ≡ group_closing (stage_of st) sum
    unfolding group_closing
    group-closing-bare e = rw (e, width)

    pub group-closing-open : st ≡ stage.Any → w + 5 ≡ group_closing (stage_of st) sum
    unfolding group_closing
    group-closing-open e = rw (e, width)

-- ---- what was found

module _ (f : Option Found) (v : Verdict) where
  pub kept-none : f ≡ None → kept f v ≡ v
  unfolding kept
  kept-none e = rw e

  pub kept_at : (w : Found) → f ≡ Some w → kept f v ≡ wrong w.row w.field
  unfolding kept
  kept_at w e = rw e

module _ (k : ℕ) (c : Result (Unit {0}) ℕ) where
  pub tests-fine : c ≡ Ok tt → Tests k c None
  unfolding kept
  tests-fine e = record { same = λ v. rw e }

  pub tests-wrong : (field : ℕ) → c ≡ Err field → Tests k c (Some (record { row = k; field = field }))
  unfolding kept
  tests-wrong field e = record { same = λ v. rw e }

pub ruleset closings =
    (file-closing-top, file-closing-empty, file-closing-bare, file-closing-open, group-closing-top, group-closing-empty, group-closing-bare, group-closing-open)

pub ruleset testing = (tests-fine, tests-wrong)

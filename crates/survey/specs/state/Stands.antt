-- The answer from a state on. Document 01, "Numbers returned". Assumes nothing.
use Rattle.std.specs.Prelude.{ℕ, ◌+◌, ◌≡◌, List, Option, Some, None, Result}
use Rattle.sheet.specs.declared.Sheet.{Sheet}
use Rattle.paper.specs.Batch.{Header, Thing}
use Rattle.paper.specs.Proper as paper
use Rattle.paper.specs.Carried.{Place, rows_carried}
use Rattle.roundtrip.specs.flat.Count.{count}
use Rattle.rows.specs.read.After.{after_number}
use Rattle.rows.specs.walk.Walks.{before_of}
use Rattle.survey.specs.declared.state.Found.{Found}
use Rattle.survey.specs.declared.state.State.{State}

-- refusal 21: a fault that was found stays, whatever comes behind it
unfoldable pub kept : Option Found → paper.Verdict → paper.Verdict
kept (Some w) v = paper.wrong w.row w.field
kept None v = v

-- f is what the test c of row k finds
pub record Tests (k : ℕ) (c : Result (Unit {0}) ℕ) (f : Option Found) : Type 0 where
  pub same : (v : paper.Verdict) → kept f v ≡ after_number k c v

-- before the first row
pub record Starts (st : State) : Type 0 where
  pub before : before_of st.before ≡ paper.at_top
  pub bytes : st.bytes ≡ 0
  pub found : st.found ≡ None

-- what judging rows ends in: 20 or 21 at a row and a field, or the bytes that their lines take
pub data Outcome : Type 0 where
  improper : ℕ → ℕ → Outcome
  unfit : ℕ → ℕ → Outcome
  fits : ℕ → Outcome

-- 20 comes before 21, wherever they are
unfoldable pub survey_of : paper.Verdict → paper.Verdict → ℕ → Outcome
survey_of (paper.wrong row field) v n = improper row field
survey_of paper.fine (paper.wrong row field) n = unfit row field
survey_of paper.fine paper.fine n = fits n

-- the outcome from row k on, where rows stand at p
unfoldable pub resume : Sheet → ℕ → Header → ℕ → Place → State → List Thing → Outcome
resume sh today h k p st ts =
    survey_of
    (paper.rows_proper k (before_of st.before) ts)
    (kept st.found (rows_carried sh today h k p ts))
    (st.bytes + count sh (before_of st.before).stage st.before.sum ts)

-- How large the numbers of the judging can be before a row. Document 01, "The batch". Assumes nothing.
use Rattle.std.specs.Prelude.{ℕ, suc, ◌+◌, ◌*◌, ◌≤◌, ◌<◌, ◌≡◌, Result, Ok, Err}
use Rattle.paper.specs.Batch.{most14}
use Rattle.roundtrip.specs.flat.Few.{Few}
use Rattle.rows.specs.declared.field.Field.{Field}
use Rattle.rows.specs.walk.Walks.{before_of}
use Rattle.survey.specs.declared.state.State.{State}
use Rattle.survey.specs.declared.state.Step.{Step}
use Rattle.survey.specs.declared.state.Step.TheVariants as step

-- before row k stand n rows, each of at most 500 bytes
pub record Low (k : ℕ) (st : State) : Type 0 where
  pub n : ℕ
  pub row : k ≡ suc n
  pub few : Few (before_of st.before) n
  pub bytes : st.bytes ≤ 500 * n
  pub sum : st.before.sum ≤ most14

-- they stay small behind row k
abbrev pub LowStep : ℕ → Result Step Field → Type 0
LowStep k (Ok (step.Item st)) = Low (k + 1) st
LowStep k (Ok (step.Group st date)) = Low (k + 1) st
LowStep k (Ok (step.File st kind first)) = Low (k + 1) st × (first < 1000)
LowStep k (Err field) = Unit {0}

-- What one row does to the outcome. Assumes nothing.
use Rattle.std.specs.Prelude.{ℕ, ◌+◌, ◌≡◌, List, ◌∷◌, Result, Ok, Err}
use Rattle.sheet.specs.declared.Sheet.{Sheet}
use Rattle.paper.specs.Batch.{Header, Thing}
use Rattle.paper.specs.Carried.{Place, behind_group, behind_item}
use Rattle.rows.specs.declared.field.Field.{Field}
use Rattle.rows.specs.field.Numbers.{number_of}
use Rattle.survey.specs.declared.state.State.{State}
use Rattle.survey.specs.declared.state.Step.{Step}
use Rattle.survey.specs.declared.state.Step.TheVariants as step
use Rattle.survey.specs.state.Stands.{improper, resume}

-- behind an account file whose number has these first three digits
abbrev pub behind_series : Place → ℕ → ℕ → Place
behind_series p kind first = record { items = p.items; seen = first ∷ p.seen; kind = kind; date = 0 }

-- row k is t and stands at p, and whatever rows follow, the outcome from it on is that of the step
abbrev pub Goes : Sheet → ℕ → Header → Place → ℕ → State → Thing → Result Step Field → Type 0
Goes sh today h p k st t (Ok (step.Item next)) = (ts : List Thing) → resume sh today h (k + 1) (behind_item p) next ts ≡ resume sh today h k p st (t ∷ ts)
Goes sh today h p k st t (Ok (step.Group next date)) = (ts : List Thing) → resume sh today h (k + 1) (behind_group p date) next ts ≡ resume sh today h k p st (t ∷ ts)
Goes sh today h p k st t (Ok (step.File next kind first)) = (ts : List Thing) → resume sh today h (k + 1) (behind_series p kind first) next ts ≡ resume sh today h k p st (t ∷ ts)
Goes sh today h p k st t (Err field) = (ts : List Thing) → improper k (number_of field) ≡ resume sh today h k p st (t ∷ ts)

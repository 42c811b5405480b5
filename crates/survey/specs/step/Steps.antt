-- What judging one row answers. Assumes nothing.
use Rattle.std.specs.Prelude.{ℕ, ◌≡◌, List, Option, Result}
use Rattle.sheet.specs.declared.Sheet.{Sheet}
use Rattle.paper.specs.Batch.{Header, Thing}
use Rattle.paper.specs.Carried.{Place}
use Rattle.calendar.specs.declared.term.Banks.{Banks}
use Rattle.rows.specs.declared.field.Field.{Field}
use Rattle.rows.specs.declared.read.Row.{Row}
use Rattle.rows.specs.read.Told.{told}
use Rattle.survey.specs.declared.state.State.{State}
use Rattle.survey.specs.declared.state.Step.{Step}
use Rattle.survey.specs.state.Known.{Known}
use Rattle.survey.specs.state.Low.{LowStep}
use Rattle.survey.specs.state.Goes.{Goes}

-- Row k is t, and r is what it leads to, where the header's interval goes from `from` to `to`, and of its place the code knows these.
pub record Steps (sh : Sheet) (today from to all kind : ℕ) (banks : Banks) (seen : List ℕ) (k : ℕ) (st : State) (t : Thing) (r : Result Step Field) : Type 0 where
  pub low : LowStep k r
  pub goes : (h : Header) (p : Place) → h.from ≡ from → h.to ≡ to → Known sh today all kind banks seen p → Goes sh today h p k st t r

-- .. where the row was read as `row`, and its texts stand in `texts`
pub record StepsRead (sh : Sheet) (today from to all kind : ℕ) (banks : Banks) (seen : List ℕ) (k : ℕ) (st : State) (texts : List ℕ) (row : Option Row) (r : Result Step Field) : Type 0 where
  pub steps : Steps sh today from to all kind banks seen k st (told texts row) r

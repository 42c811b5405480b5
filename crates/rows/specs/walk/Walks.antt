-- Refusal 20 over rows, one after another: what stands before a row as the definitions count it, and what the row leads to. Document 01, "The
-- batch". Assumes nothing.
use Rattle.std.specs.Prelude.{ℕ, suc, ◌<◌, ◌≡◌, true, List, ◌∷◌, Result, Ok, Err}
use Rattle.paper.specs.Days.{real_day}
use Rattle.paper.specs.Batch.{Thing, a_file, a_group, an_item, misnumbered, strange}
use Rattle.paper.specs.Proper as paper
use Rattle.rows.specs.declared.read.ItemRow.{ItemRow}
use Rattle.rows.specs.read.Sized.{Sized}
use Rattle.rows.specs.declared.walk.Stage.{Stage}
use Rattle.rows.specs.declared.walk.Stage.TheVariants as stage
use Rattle.rows.specs.declared.walk.Before.{Before}
use Rattle.rows.specs.declared.field.Field.{Field}
use Rattle.rows.specs.declared.field.Wrong.{Wrong}
use Rattle.rows.specs.field.Numbers.{number_of}

-- what may come next
abbrev pub stage_of : Stage → paper.Stage
stage_of stage.NeedFile = paper.need_file
stage_of stage.NeedGroup = paper.need_group
stage_of stage.NeedItem = paper.need_item
stage_of stage.Any = paper.any

-- what stands before a row
abbrev pub before_of : Before → paper.Before
before_of b = record { stage = stage_of b.stage; files = b.files; items = b.items; single = b.single; sum = b.sum }

-- .. and before the next one
abbrev pub behind : paper.Before → Thing → paper.Before
behind b (a_file kind number) = paper.after_file b
behind b (a_group date payer) = paper.after_group b payer
behind b (an_item x) = paper.after_item b x
behind b (misnumbered x) = b
behind b strange = b

-- the verdict where row k leads to r, and ts are the rows behind it
abbrev pub walked : ℕ → Result Before Field → List Thing → paper.Verdict
walked k (Ok next) ts = paper.rows_proper (suc k) (before_of next) ts
walked k (Err field) ts = paper.wrong k (number_of field)

-- what stands before the next row, where there is one
abbrev pub Leads : Before → Thing → Result Before Field → Type 0
Leads b t (Ok next) = before_of next ≡ behind (before_of b) t
Leads b t (Err field) = Unit {0}

-- The row t, before which b stands, leads to r: whatever rows follow, the verdict from t on is that.
pub record Walks (b : Before) (t : Thing) (r : Result Before Field) : Type 0 where
  pub same : (k : ℕ) (ts : List Thing) → walked k r ts ≡ paper.rows_proper k (before_of b) (t ∷ ts)
  pub leads : Leads b t r

-- the verdict over all rows
abbrev pub verdict_of : Result (Unit {0}) Wrong → paper.Verdict
verdict_of (Ok u) = paper.fine
verdict_of (Err w) = paper.wrong w.row (number_of w.field)

-- ---- what a row has that passed its tests

-- an account file: it may come here, and is none of more than 1,000; its number has six digits
pub record FilePassed (b : paper.Before) (number : ℕ) : Type 0 where
  pub due : paper.file_due b.stage ≡ true
  pub few : b.files < 1000
  pub small : number < 1000000

-- a group: it may come here, on a day that is real
pub record GroupPassed (b : paper.Before) (date : ℕ) : Type 0 where
  pub due : paper.group_due b.stage ≡ true
  pub day : real_day date ≡ true

-- an item: it may come here, and is none of more than 99,999; its texts lie inside what was lent, and nothing is too large
pub record ItemPassed (b : paper.Before) (texts : List ℕ) (x : ItemRow) : Type 0 where
  pub due : paper.item_due b.stage ≡ true
  pub few : b.items < 99999
  pub sized : Sized texts x

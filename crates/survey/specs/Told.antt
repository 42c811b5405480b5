-- What the judging pass answers. Document 01, "Numbers returned". Assumes nothing.
use Rattle.std.specs.Prelude.{ℕ, ◌≤◌, List, Result, Ok, Err}
use Rattle.sheet.specs.declared.Sheet.{Sheet}
use Rattle.paper.specs.Batch.{Header, Thing}
use Rattle.paper.specs.Proper.{need_file, batch_proper}
use Rattle.paper.specs.Carried.{batch_carried}
use Rattle.roundtrip.specs.flat.Count.{count}
use Rattle.survey.specs.state.Stands.{Outcome, improper, unfit, fits, survey_of}
use Rattle.rows.specs.field.Numbers.{number_of}
use Rattle.survey.specs.declared.Unwritable.{Unwritable}
use Rattle.survey.specs.declared.Unwritable.TheVariants.{NotABatch, NotCarried}

-- the answer of the code
abbrev pub told : Result ℕ Unwritable → Outcome
told (Ok n) = fits n
told (Err (NotABatch w)) = improper w.row (number_of w.field)
told (Err (NotCarried w)) = unfit w.row w.field

-- 20 over all rows, then 21 over all rows, then the bytes of their lines
unfoldable pub judged : Sheet → ℕ → Header → List Thing → Outcome
judged sh today h ts = survey_of (batch_proper ts) (batch_carried sh today h ts) (count sh need_file 0 ts)

-- 200,000,000 rows at most, of 500 bytes at most: a length leaves room for the first line
abbrev pub Small : Result ℕ Unwritable → Type 0
Small (Ok n) = n ≤ 200000000000
Small (Err why) = Unit {0}

-- The judge's answer in brief, without the numbers of account files. Assumes nothing.
use Rattle.std.specs.Prelude.{ℕ, List, length}
use Rattle.sheet.specs.declared.Sheet.{Sheet}
use Rattle.paper.specs.Batch.{Header, things}
use Rattle.paper.specs.Judge.{Answer, Refused, Accepted}
use Rattle.tally.specs.Tally as numbers

-- number, line and byte; or the header and the counts of rows and warnings
pub data Brief : Type 0 where
  No : ℕ → ℕ → ℕ → Brief
  Yes : Header → ℕ → ℕ → Brief

unfoldable pub brief : Answer → Brief
brief (Refused n l p) = No n l p
brief (Accepted h b w) = Yes h (length (things b)) w

-- what the machine answers, without them
unfoldable pub short : numbers.Brief → Brief
short (numbers.No n l p) = No n l p
short (numbers.Yes h l r w) = Yes h r w

unfoldable pub tally : Sheet → ℕ → List ℕ → Brief
tally sh today f = short (numbers.tally sh today f)

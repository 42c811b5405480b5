-- `verdict_at` takes the verdict that is known, or judges.
use Rattle.verdict.proofs.sheets.Saying.{asked-same}
use Rattle.verdict.proofs.sheets.verdict_at.Goals as goal

pub returns-then-n-asked : goal.returns-then-n-asked
returns-then-n-asked c = search asked-same

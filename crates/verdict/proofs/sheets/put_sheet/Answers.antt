-- `put_sheet` puts the letter, and what the sheet says.
use Rattle.verdict.proofs.sheets.Saying.{then-words}
use Rattle.verdict.proofs.sheets.put_sheet.Goals as goal

pub returns : goal.returns
returns c = search then-words

-- `put_accepted` puts the words of a sheet that accepts the file, part by part.
use Rattle.verdict.proofs.sheets.Saying.{then-accepted}
use Rattle.verdict.proofs.sheets.put_accepted.Goals as goal

pub returns : goal.returns
returns c = search then-accepted

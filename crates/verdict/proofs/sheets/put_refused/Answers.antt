-- `put_refused` puts the words of one that refuses it, part by part.
use Rattle.verdict.proofs.sheets.Saying.{then-refused}
use Rattle.verdict.proofs.sheets.put_refused.Goals as goal

pub returns : goal.returns
returns c = search then-refused

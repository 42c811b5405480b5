-- `put_refused` puts a refusal's line, part by part.
use Rattle.verdict.proofs.Wording.{then-refused}
use Rattle.verdict.proofs.put_refused.Goals as goal

pub returns : goal.returns
returns c = search (then-refused)

-- `put_verdict` puts the one or the other.
use Rattle.verdict.proofs.sheets.Saying.{words}
use Rattle.verdict.proofs.sheets.put_verdict.Goals as goal

pub returns-then-v-eq0 : goal.returns-then-v-eq0
returns-then-v-eq0 c = search words

pub returns : goal.returns
returns c = search words

-- `put_said` puts a word and a number behind it.
use Rattle.numeral.proofs.counted.Laws.{◌counted-then◌}
use Rattle.verdict.proofs.put_said.Goals as goal

pub returns : goal.returns
returns c = search (◌counted-then◌)

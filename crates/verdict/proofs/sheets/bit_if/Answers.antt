-- `bit_if` is the bit or 0.
use Rattle.base.proofs.Cases.{picks}
use Rattle.verdict.proofs.sheets.bit_if.Goals as goal

pub returns-then-v-eq0 : goal.returns-then-v-eq0
returns-then-v-eq0 c = search picks

pub returns : goal.returns
returns c = search picks

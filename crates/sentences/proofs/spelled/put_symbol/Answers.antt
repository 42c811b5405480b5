-- `put_symbol` puts how many digits a specific symbol has.
use Rattle.sentences.proofs.spelled.Digits.{least-digits}
use Rattle.sentences.proofs.spelled.put_symbol.Goals as goal

pub returns : goal.returns
returns c = search least-digits

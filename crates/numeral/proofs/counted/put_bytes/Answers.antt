-- `put_bytes` puts the text where it has room, and counts it.
use Rattle.std.proofs.Common.{rules}
use Rattle.numeral.proofs.counted.Exits.{exits}
use Rattle.numeral.proofs.counted.put_bytes.Goals as goal

pub put_bytes-requires : goal.put_bytes-requires
put_bytes-requires c = search (exits, rules)

pub returns-then-fits : goal.returns-then-fits
returns-then-fits c = search (exits, rules)

pub returns : goal.returns
returns c = search (exits, rules)

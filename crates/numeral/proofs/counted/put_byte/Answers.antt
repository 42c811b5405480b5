-- `put_byte` puts the byte where it has room, and counts it.
use Rattle.std.proofs.Common.{rules}
use Rattle.numeral.proofs.counted.Exits.{exits}
use Rattle.numeral.proofs.counted.put_byte.Goals as goal

pub put_byte-requires : goal.put_byte-requires
put_byte-requires c = search (exits, rules)

pub returns-then-fits : goal.returns-then-fits
returns-then-fits c = search (exits, rules)

pub returns : goal.returns
returns c = search (exits, rules)

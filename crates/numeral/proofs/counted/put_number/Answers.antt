-- `put_number` puts the digits where they have room, and counts them.
use Rattle.std.proofs.Common.{rules}
use Rattle.numeral.proofs.counted.Exits.{exits}
use Rattle.numeral.proofs.counted.put_number.Goals as goal

pub put_number-requires : goal.put_number-requires
put_number-requires c = search (exits, rules)

pub returns-then-fits : goal.returns-then-fits
returns-then-fits c = search (exits, rules)

pub returns : goal.returns
returns c = search (exits, rules)

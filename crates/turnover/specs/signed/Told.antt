-- A number with a sign as the definitions have it. Document 02, W-204. Assumes nothing.
use Rattle.gpc.specs.Signed.{Signed as Number}
use Rattle.turnover.specs.declared.signed.Signed.{Signed}

abbrev pub said : Signed → Number
said x = record { minus = x.minus; size = x.size }

-- `none_above` meets its contract: the last word without its lowest 40 bits. Assumes nothing.
use lib.ListN.{get_or}
use mir.Syntax.{w64}
use mir.Val.{Fits}
use Rattle.register.proofs.Counted.{high-none}
use borrow.Author.Rules.{rules}
use Rattle.register.proofs.none_above.Goals as goal

pub returns : goal.returns
returns c = let small : Fits w64 (get_or c.args.set.words 15 0) = search rules in
    high-none _ small.fits

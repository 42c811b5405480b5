-- `put_each` puts byte after byte: those before the next one stand there. Assumes nothing.
use lib.ListN.{take}
use Rattle.numeral.specs.counted.Counted.{Counted}
use Rattle.sentences.specs.Quoted.{quoted_bytes}
use Rattle.sentences.proofs.quoted.put_each.Given as goal

abbrev pub invariant-loop-x : goal.invariant-loop-x
invariant-loop-x l = Counted l.initial.out l.at (quoted_bytes (take l.x-index l.s)) l.out l.next

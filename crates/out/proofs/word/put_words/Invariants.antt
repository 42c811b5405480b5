-- Words go in one after the other; the loop's invariant is what a writer promises of those passed. Assumes nothing.
use lib.ListN.{take}
use Rattle.base.specs.Put.{Wrote}
use Rattle.paper.specs.Words.{words_bytes}
use Rattle.out.proofs.word.put_words.Given as goal

abbrev pub invariant-loop-w : goal.invariant-loop-w
invariant-loop-w l = Wrote l.initial.rows l.at (words_bytes (take l.w-index l.words)) l.rows l.next

-- `word_at` meets its contract: the bytes from the highest down make the word. Assumes nothing.
use Rattle.out.proofs.word.Load.{Loaded}
use Rattle.out.proofs.word.word_at.Given as goal

abbrev pub invariant-loop-k : goal.invariant-loop-k
invariant-loop-k l = Loaded l.rows l.at l.w l.k

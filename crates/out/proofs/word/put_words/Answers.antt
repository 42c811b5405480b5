-- Words go in one after the other; the loop's invariant is what a writer promises of those passed. Assumes nothing.
use mathlib.Core.List.{[]}
use native.Mathlib.Omega.{arith}
use borrow.Author.Rules.{rules}
use Rattle.out.proofs.word.Many.{row_first, puts}
use Rattle.out.proofs.word.put_words.Goals as goal

pub loop-w-init : goal.loop-w-init
loop-w-init c = row_first _ _ [] (omega arith)

pub put_word-next-requires : goal.put_word-next-requires
put_word-next-requires c = search (puts, rules)

pub loop-w-preserved : goal.loop-w-preserved
loop-w-preserved c = search (puts, rules)

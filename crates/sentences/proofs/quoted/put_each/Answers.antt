-- `put_each` puts byte after byte: those before the next one stand there. Assumes nothing.
use borrow.Author.Rules.{rules}
use Rattle.sentences.proofs.quoted.Quoting.{each}
use Rattle.sentences.proofs.quoted.put_each.Goals as goal

pub loop-x-init : goal.loop-x-init
loop-x-init c = search (each, rules)

pub loop-x-preserved : goal.loop-x-preserved
loop-x-preserved c = search (each, rules)

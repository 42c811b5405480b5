-- `space_inside` meets its contract: no space stands between the index and `stop`. Assumes nothing.
use borrow.Author.Rules.{rules}
use Rattle.groupline.proofs.Spaces.{inside}
use Rattle.groupline.proofs.space_inside.Goals as goal

pub returns-then-s-i-eq32 : goal.returns-then-s-i-eq32
returns-then-s-i-eq32 c = search (inside, rules)

pub loop-i-preserved : goal.loop-i-preserved
loop-i-preserved c = search (inside, rules)

pub returns : goal.returns
returns c = search inside

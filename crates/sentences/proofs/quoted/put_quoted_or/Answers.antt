-- `put_quoted_or` puts bytes in quotes, or `nothing`.
use Rattle.sentences.proofs.quoted.Quoting.{nothing}
use Rattle.sentences.proofs.quoted.put_quoted_or.Goals as goal

pub returns-then-s-eq0 : goal.returns-then-s-eq0
returns-then-s-eq0 c = search nothing

pub returns : goal.returns
returns c = search nothing

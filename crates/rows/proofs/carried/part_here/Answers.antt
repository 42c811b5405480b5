-- `part_here` meets its contract: an empty part, or the text that was tested. Assumes nothing.
use borrow.Author.Rules.{rules}
use Rattle.rows.proofs.carried.Steps.{texts}
use Rattle.rows.proofs.carried.part_here.Goals as goal

pub returns-then-p-eq0 : goal.returns-then-p-eq0
returns-then-p-eq0 c = search texts

pub part_carried-requires : goal.part_carried-requires
part_carried-requires c = search (texts, rules)

pub returns : goal.returns
returns c = search texts

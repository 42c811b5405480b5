-- `carried::clean_here` meets its contract. Assumes nothing.
use borrow.Author.Rules.{rules}
use Rattle.rows.proofs.carried.Steps.{cleans}
use Rattle.rows.proofs.carried.clean_here.Goals as goal

pub part_here-requires : goal.part_here-requires
part_here-requires c = search (cleans, rules)

pub returns : goal.returns
returns c = search cleans

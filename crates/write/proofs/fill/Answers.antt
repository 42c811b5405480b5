-- `fill` puts the first line and the rows' lines, which are the file.
use borrow.Author.Rules.{rules}
use Rattle.write.proofs.Exits.{putting}
use Rattle.write.proofs.fill.Goals as goal

pub put_first-at-requires : goal.put_first-at-requires
put_first-at-requires c = search (putting, rules)

pub fill_file-requires : goal.fill_file-requires
fill_file-requires c = search (putting, rules)

pub returns : goal.returns
returns c = search putting

-- `walk_line`: a line of any kind, its end apart. Assumes nothing.
use borrow.Author.Rules.{rules}
use Rattle.fault.proofs.known.Turns.{longs, kinds}
use Rattle.fault.proofs.known.walk_line.Goals as goal

pub walk_group-requires : goal.walk_group-requires
walk_group-requires c = search (longs, rules)

pub walk_file-requires : goal.walk_file-requires
walk_file-requires c = search (longs, rules)

pub walk_first-requires : goal.walk_first-requires
walk_first-requires c = search (longs, rules)

pub walk_close-requires : goal.walk_close-requires
walk_close-requires c = search (longs, rules)

pub walk_close-requires-in-FileEnd : goal.walk_close-requires-in-FileEnd
walk_close-requires-in-FileEnd c = search (longs, rules)

pub returns-in-Item : goal.returns-in-Item
returns-in-Item c = search kinds

pub returns-in-Group : goal.returns-in-Group
returns-in-Group c = search kinds

pub returns-in-File : goal.returns-in-File
returns-in-File c = search kinds

pub returns-in-Head : goal.returns-in-Head
returns-in-Head c = search kinds

pub returns-in-GroupEnd : goal.returns-in-GroupEnd
returns-in-GroupEnd c = search kinds

pub returns-in-FileEnd : goal.returns-in-FileEnd
returns-in-FileEnd c = search kinds

-- `fill_line`: the row of a line that was judged before, put where it goes. Assumes nothing.
use borrow.Author.Rules.{rules}
use Rattle.fill.proofs.file.Put.{judged-file, judged-group, judged-item, room-file, room-group, room-item, reach-item, step-head, step-group-end, step-file-end, step-file, step-group, step-item}
use Rattle.fill.proofs.file.fill_line.Goals as goal

pub take_item-requires : goal.take_item-requires
take_item-requires c = search (judged-item, rules)

pub put_item_row-requires : goal.put_item_row-requires
put_item_row-requires c = search (room-item, reach-item, rules)

pub take_group-g-requires : goal.take_group-g-requires
take_group-g-requires c = search (judged-group, rules)

pub put_group_row-requires : goal.put_group_row-requires
put_group_row-requires c = search (room-group, rules)

pub take_file-a-requires : goal.take_file-a-requires
take_file-a-requires c = search (judged-file, rules)

pub put_file_row-requires : goal.put_file_row-requires
put_file_row-requires c = search (room-file, rules)

pub returns-in-Item : goal.returns-in-Item
returns-in-Item c = search step-item

pub returns-in-Group : goal.returns-in-Group
returns-in-Group c = search step-group

pub returns-in-File : goal.returns-in-File
returns-in-File c = search step-file

pub returns-in-Head : goal.returns-in-Head
returns-in-Head c = search step-head

pub returns-in-GroupEnd : goal.returns-in-GroupEnd
returns-in-GroupEnd c = search step-group-end

pub returns-in-FileEnd : goal.returns-in-FileEnd
returns-in-FileEnd c = search step-file-end

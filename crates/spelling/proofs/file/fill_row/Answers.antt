-- `fill_row` meets its contract: each kind of row has its lines. Assumes nothing.
use borrow.Author.Rules.{rules}
use Rattle.spelling.proofs.file.Row.{fill-file, fill-group, fill-item, asked}
use Rattle.spelling.proofs.file.fill_row.Goals as goal

pub end_file-e-requires : goal.end_file-e-requires
end_file-e-requires c = search (asked, rules)

pub put_file_line-next-requires : goal.put_file_line-next-requires
put_file_line-next-requires c = search (asked, rules)

pub group_sum-total-requires : goal.group_sum-total-requires
group_sum-total-requires c = search (asked, rules)

pub end_group-e-requires : goal.end_group-e-requires
end_group-e-requires c = search (asked, rules)

pub put_group_line-next-requires : goal.put_group_line-next-requires
put_group_line-next-requires c = search (asked, rules)

pub put_item_line-next-requires : goal.put_item_line-next-requires
put_item_line-next-requires c = search (asked, rules)

pub returns-in-File : goal.returns-in-File
returns-in-File c = search fill-file

pub returns-in-Group : goal.returns-in-Group
returns-in-Group c = search fill-group

pub returns-in-Item : goal.returns-in-Item
returns-in-Item c = search fill-item

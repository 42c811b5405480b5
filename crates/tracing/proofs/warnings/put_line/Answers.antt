-- `put_line` meets its contract: by the kind of the line. Assumes nothing.
use borrow.Author.Rules.{rules}
use Rattle.tracing.proofs.warnings.Puts.{quiets, files, groups, items}
use Rattle.tracing.proofs.warnings.put_line.Goals as goal

pub put_item-requires : goal.put_item-requires
put_item-requires c = record { sane = search rules; start_le_stop = (search rules, search rules); f_value = search (items, rules) }

pub is_single-single-requires : goal.is_single-single-requires
is_single-single-requires c = search (groups, rules)

pub put_group-requires : goal.put_group-requires
put_group-requires c = record { sane = search rules; cuts = search rules; stop_value = search (groups, rules); items_said = search (groups, rules); next_bound = search (groups, rules) }

pub take_file-requires : goal.take_file-requires
take_file-requires c = search (files, rules)

pub returns-in-Item : goal.returns-in-Item
returns-in-Item c = search (items, rules)

pub returns-in-Group : goal.returns-in-Group
returns-in-Group c = search (groups, rules)

pub returns-in-File : goal.returns-in-File
returns-in-File c = search (files, rules)

pub returns-in-Head : goal.returns-in-Head
returns-in-Head c = search (quiets, rules)

pub returns-in-GroupEnd : goal.returns-in-GroupEnd
returns-in-GroupEnd c = search (quiets, rules)

pub returns-in-FileEnd : goal.returns-in-FileEnd
returns-in-FileEnd c = search (quiets, rules)

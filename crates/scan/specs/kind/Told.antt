-- What the answer of `kind_of` stands for in document 01, "Lines". Assumes nothing.
use Rattle.paper.specs.Entries.{Kind, head_line, file_line, group_line, item_line, group_end, file_end}
use Rattle.scan.specs.declared.kind.LineKind.{LineKind}
use Rattle.scan.specs.declared.kind.LineKind.TheVariants.{Head, File, Group, Item, GroupEnd, FileEnd}

-- the kind of line that each answer names
abbrev pub told : LineKind → Kind
told Head = head_line
told File = file_line
told Group = group_line
told Item = item_line
told GroupEnd = group_end
told FileEnd = file_end

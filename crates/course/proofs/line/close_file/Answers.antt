-- `close_file` meets its contract: no group yet, the line refused, or the account file is closed. Assumes nothing.
use borrow.Author.Rules.{rules}
use Rattle.course.proofs.line.Leading.{ends-lead, file-ended}
use Rattle.judge.proofs.accountfile.Groups.{closing-places}
use Rattle.course.proofs.line.close_file.Goals as goal

pub returns-then-groups-eq0 : goal.returns-then-groups-eq0
returns-then-groups-eq0 c = search (ends-lead, closing-places, rules)

pub close_line-requires : goal.close_line-requires
close_line-requires c = search (ends-lead, closing-places, rules)

pub returns-in-Ok : goal.returns-in-Ok
returns-in-Ok c = record {
  low_move = search (ends-lead, rules);
  by_index = file-ended _ _ _ _ _ _ c.requires.cuts c.requires.f_value _ _ c.if-groups-eq0.false c.close_line.result c.close_line.ensures c.in-Ok.field-0 c.in-Ok.is;
}

pub returns-in-Err : goal.returns-in-Err
returns-in-Err c = search (ends-lead, closing-places, rules)

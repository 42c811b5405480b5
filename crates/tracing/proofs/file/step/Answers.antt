-- `step` meets its contract, by the stage. Assumes nothing.
use borrow.Author.Rules.{rules}
use Rattle.tracing.proofs.file.Stepping.{steps}
use Rattle.course.proofs.line.Leading.{stages}
use Rattle.tracing.proofs.file.Reaching.{reached-low}
use Rattle.tracing.proofs.file.step.Goals as goal

pub whole_group-requires : goal.whole_group-requires
whole_group-requires c = search (steps, stages, reached-low, rules)

pub next_line-cut-requires : goal.next_line-cut-requires
next_line-cut-requires c = search (steps, stages, reached-low, rules)

pub from_group-m-requires : goal.from_group-m-requires
from_group-m-requires c = search (steps, stages, reached-low, rules)

pub moved-requires : goal.moved-requires
moved-requires c = search (steps, stages, reached-low, rules)

pub next_line-cut-requires-in-File : goal.next_line-cut-requires-in-File
next_line-cut-requires-in-File c = search (steps, stages, reached-low, rules)

pub from_file-m-requires : goal.from_file-m-requires
from_file-m-requires c = search (steps, stages, reached-low, rules)

pub moved-requires-in-File : goal.moved-requires-in-File
moved-requires-in-File c = search (steps, stages, reached-low, rules)

pub next_line-cut-requires-in-First : goal.next_line-cut-requires-in-First
next_line-cut-requires-in-First c = search (steps, stages, reached-low, rules)

pub from_first-m-requires : goal.from_first-m-requires
from_first-m-requires c = search (steps, stages, reached-low, rules)

pub moved-requires-in-First : goal.moved-requires-in-First
moved-requires-in-First c = search (steps, stages, reached-low, rules)

pub returns-in-Item : goal.returns-in-Item
returns-in-Item c = search (steps, stages, reached-low, rules)

pub returns-in-Group : goal.returns-in-Group
returns-in-Group c = search (steps, stages, reached-low, rules)

pub returns-in-File : goal.returns-in-File
returns-in-File c = search (steps, stages, reached-low, rules)

pub returns-in-First : goal.returns-in-First
returns-in-First c = search (steps, stages, reached-low, rules)

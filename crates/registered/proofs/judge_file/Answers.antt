-- `judge_file` meets its contract: an empty file, a first line, or 3 for each other kind of line. Assumes nothing.
use borrow.Author.Rules.{rules}
use Rattle.judge.proofs.group.Turns.{is-kind}
use Rattle.registered.proofs.Ends.{ends}
use Rattle.registered.proofs.judge_file.Goals as goal

pub returns-then-f-eq0 : goal.returns-then-f-eq0
returns-then-f-eq0 c = search ends

pub from_first-requires : goal.from_first-requires
from_first-requires c = record { sane = c.requires.sane; cuts = search rules; f_value = search (is-kind, rules); sound = c.requires.sound }

pub returns-in_default : goal.returns-in_default
returns-in_default c = search ends

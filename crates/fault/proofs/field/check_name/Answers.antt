-- `check_name`: n bytes of text. Assumes nothing.
use Rattle.fault.proofs.field.Rulings.{names}
use Rattle.fault.proofs.field.check_name.Goals as goal

pub returns-then-f-n : goal.returns-then-f-n
returns-then-f-n c = search names

pub returns-then-all_text : goal.returns-then-all_text
returns-then-all_text c = search names

pub returns : goal.returns
returns c = search names

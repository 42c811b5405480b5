-- `read_name` reads from the name on. Assumes nothing.
use Rattle.firstline.specs.Stages.{on_name}
use Rattle.firstline.proofs.Steps.{fields}
use Rattle.firstline.proofs.read_name.Goals as goal

pub returns-then-s-lt30 : goal.returns-then-s-lt30
unfolding on_name
returns-then-s-lt30 c = search fields

pub returns-then-all_text : goal.returns-then-all_text
unfolding on_name
returns-then-all_text c = search fields

pub returns : goal.returns
unfolding on_name
returns c = search fields

-- `text::extent::no_text` meets its contract. Assumes nothing.
use Rattle.text.proofs.extent.Parts.{untexts}
use Rattle.text.proofs.extent.no_text.Goals as goal

pub returns-then-no_parts : goal.returns-then-no_parts
returns-then-no_parts c = search (untexts)

pub returns : goal.returns
returns c = search (untexts)

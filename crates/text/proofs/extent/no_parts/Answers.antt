-- `text::extent::no_parts` meets its contract. Assumes nothing.
use Rattle.text.proofs.extent.Parts.{nones}
use Rattle.text.proofs.extent.no_parts.Goals as goal

pub returns-then-b-eq0 : goal.returns-then-b-eq0
returns-then-b-eq0 c = search (nones)

pub returns-then-c-eq0 : goal.returns-then-c-eq0
returns-then-c-eq0 c = search (nones)

pub returns-then-d-eq0 : goal.returns-then-d-eq0
returns-then-d-eq0 c = search (nones)

pub returns : goal.returns
returns c = search (nones)

-- `put_text` meets its contract: the heading, the findings and the sheets' lines, one behind the other.
use borrow.Author.Rules.{rules}
use Rattle.explain.proofs.Text.{then-text}
use Rattle.explain.proofs.put_text.Goals as goal

pub put_heading-d-requires : goal.put_heading-d-requires
put_heading-d-requires c = search (then-text, rules)

pub put_findings-e-requires : goal.put_findings-e-requires
put_findings-e-requires c = search (then-text, rules)

pub put_bytes-requires : goal.put_bytes-requires
put_bytes-requires c = search (then-text, rules)

pub returns : goal.returns
returns c = search (then-text, rules)

-- `put_counts` meets its contract: the rows, then the warnings, each behind its word.
use borrow.Author.Rules.{rules}
use Rattle.explain.proofs.Text.{then-counts}
use Rattle.explain.proofs.put_counts.Goals as goal

pub put_said-e-requires : goal.put_said-e-requires
put_said-e-requires c = search (then-counts, rules)

pub put_said-f-requires : goal.put_said-f-requires
put_said-f-requires c = search (then-counts, rules)

pub put_bytes-requires : goal.put_bytes-requires
put_bytes-requires c = search (then-counts, rules)

pub returns : goal.returns
returns c = search (then-counts, rules)

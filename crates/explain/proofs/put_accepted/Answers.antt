-- `put_accepted` meets its contract: its words and the letter, and the counts behind them.
use borrow.Author.Rules.{rules}
use Rattle.explain.proofs.Text.{then-accepted}
use Rattle.explain.proofs.put_accepted.Goals as goal

pub put_bytes-c-requires : goal.put_bytes-c-requires
put_bytes-c-requires c = search (then-accepted, rules)

pub put_byte-d-requires : goal.put_byte-d-requires
put_byte-d-requires c = search (then-accepted, rules)

pub put_counts-requires : goal.put_counts-requires
put_counts-requires c = search (then-accepted, rules)

pub returns : goal.returns
returns c = search (then-accepted, rules)

-- `put_group` meets its contract: what the line of a group warns of, by the sum of the items behind it. Assumes nothing.
use borrow.Author.Rules.{rules}
use Rattle.tracing.proofs.warnings.Puts.{group-long, group-exact}
use Rattle.tracing.proofs.warnings.put_group.Goals as goal

pub put_group-requires : goal.put_group-requires
put_group-requires c = record { today_value = search rules; start_le_stop = (search rules, search rules); in_bounds = search (group-long, rules) }

pub returns : goal.returns
returns c = search (group-exact, rules)

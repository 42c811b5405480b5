-- `put_heading` puts the heading of what the pass came to.
use borrow.Author.Rules.{rules}
use Rattle.explain.proofs.Text.{headings}
use Rattle.explain.proofs.put_heading.Goals as goal

pub put_refused-requires : goal.put_refused-requires
put_refused-requires c = search (headings, rules)

pub put_accepted-requires : goal.put_accepted-requires
put_accepted-requires c = search (headings, rules)

pub returns-in-Err : goal.returns-in-Err
returns-in-Err c = search (headings, rules)

pub returns-in-Ok : goal.returns-in-Ok
returns-in-Ok c = search (headings, rules)

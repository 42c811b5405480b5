-- The loop of `put_warnings`: the warnings of the lines passed are put, and there is less to go. Assumes nothing.
use borrow.Author.Rules.{rules}
use Rattle.tracing.proofs.warnings.Listing.{listings}
use Rattle.tracing.proofs.warnings.put_warnings.Goals as goal

pub loop-at-init : goal.loop-at-init
loop-at-init c = search (listings, rules)

pub next_line-cut-requires : goal.next_line-cut-requires
next_line-cut-requires c = search (listings, rules)

pub put_line-x-requires : goal.put_line-x-requires
put_line-x-requires c = record { sane = search rules; cuts = search rules; passes = search (listings, rules) }

pub overflow_add-line : goal.overflow_add-line
overflow_add-line c = search (listings, rules)

pub loop-at-smaller : goal.loop-at-smaller
loop-at-smaller c = search (listings, rules)

pub loop-at-preserved : goal.loop-at-preserved
loop-at-preserved c = search (listings, rules)

pub shape_of-out : goal.shape_of-out
shape_of-out c = search (listings, rules)

pub returns : goal.returns
returns c = search (listings, rules)

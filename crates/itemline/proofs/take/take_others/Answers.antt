-- `take_others` meets its contract. Assumes nothing.
use borrow.Author.Rules.{rules}
use Rattle.text.proofs.division.Turns.{follows}
use Rattle.itemline.proofs.take.Named.{named-parts}
use Rattle.itemline.proofs.take.take_others.Goals as goal

pub next_part-c-requires : goal.next_part-c-requires
next_part-c-requires c = search (follows, rules)

pub next_part-d-requires : goal.next_part-d-requires
next_part-d-requires c = search (named-parts, rules)

pub name_at-name-requires : goal.name_at-name-requires
name_at-name-requires c = search (named-parts, rules)

pub returns : goal.returns
returns c = search named-parts

-- `third_space` meets its contract: a space between the two, at the start or in the last six bytes. Assumes nothing.
use borrow.Author.Rules.{rules}
use Rattle.groupline.proofs.Spaces.{places, thirds}
use Rattle.groupline.proofs.third_space.Goals as goal

pub overflow_sub-stop : goal.overflow_sub-stop
overflow_sub-stop c = search (places, rules)

pub space_inside-requires : goal.space_inside-requires
space_inside-requires c = search (places, rules)

pub returns-then-space_inside : goal.returns-then-space_inside
returns-then-space_inside c = search thirds

pub bounds-s-0 : goal.bounds-s-0
bounds-s-0 c = search (places, rules)

pub returns-then-s-eq32 : goal.returns-then-s-eq32
returns-then-s-eq32 c = search thirds

pub overflow_add-stop : goal.overflow_add-stop
overflow_add-stop c = search (places, rules)

pub field_end-requires : goal.field_end-requires
field_end-requires c = search (places, rules)

pub returns : goal.returns
returns c = search thirds

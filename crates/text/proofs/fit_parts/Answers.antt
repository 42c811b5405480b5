-- `text::fit_parts` meets its contract. Assumes nothing.
use borrow.Author.Rules.{rules}
use Rattle.text.proofs.Turns.{finishes, finished}
use Rattle.text.proofs.fit_parts.Goals as goal

pub part_at-b-requires : goal.part_at-b-requires
part_at-b-requires c = search (finishes, rules)

pub part_at-c-requires : goal.part_at-c-requires
part_at-c-requires c = search (finishes, rules)

pub part_at-d-requires : goal.part_at-d-requires
part_at-d-requires c = search (finishes, rules)

pub barred-requires : goal.barred-requires
barred-requires c = search (finishes, rules)

pub barred-requires-2 : goal.barred-requires-2
barred-requires-2 c = search (finishes, rules)

pub barred-requires-3 : goal.barred-requires-3
barred-requires-3 c = search (finishes, rules)

pub barred-requires-4 : goal.barred-requires-4
barred-requires-4 c = search (finishes, rules)

pub returns-then-most-barred : goal.returns-then-most-barred
returns-then-most-barred c = search finishes

pub returns : goal.returns
returns c =
    finished _ _ _ _ _ c.requires.from_in_bounds _ _ _ _ c.requires.a_value c.part_at-b.ensures c.part_at-c.ensures c.part_at-d.ensures
    _ _ _ _ c.barred.ensures.value c.barred-2.ensures.value c.barred-3.ensures.value c.barred-4.ensures.value
    c.if-most-barred.false c.requires.most_bound _ _ c.gather.ensures c.judge.ensures

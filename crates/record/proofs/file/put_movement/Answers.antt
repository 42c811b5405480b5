-- `put_movement`: five texts, each behind the one before. What is known of far ones is given by its place: a search does not reach it. Assumes nothing.
use borrow.Author.Rules.{rules}
use Rattle.record.proofs.file.Records.{other-room, document-room, numbers-room, rest-room, movement-put}
use Rattle.record.proofs.file.put_movement.Goals as goal

pub put_internal-b-requires : goal.put_internal-b-requires
put_internal-b-requires c = search (other-room, rules)

pub put_bytes-c-requires : goal.put_bytes-c-requires
put_bytes-c-requires c = document-room _ _ _ _ _ _ _
    c.put_front-a.ensures
    c.requires.at_in_bounds.0
    _ _ _ _
    c.put_internal-b.ensures
    _
    c.requires.at_in_bounds.1

pub put_numbers-d-requires : goal.put_numbers-d-requires
put_numbers-d-requires c = numbers-room _ _ _ _ _ _ _
    c.put_front-a.ensures
    c.requires.at_in_bounds.0
    _ _ _ _
    c.put_internal-b.ensures
    _ _ _
    c.put_bytes-c.ensures
    c.requires.at_in_bounds.1

pub put_end-requires : goal.put_end-requires
put_end-requires c = rest-room _ _ _ _ _ _ _
    c.put_front-a.ensures
    c.requires.at_in_bounds.0
    _ _ _ _
    c.put_internal-b.ensures
    _ _ _
    c.put_bytes-c.ensures
    c.requires.at_in_bounds.1
    _ _ _ _ _ _
    c.put_numbers-d.ensures
    c.requires.at_in_bounds.2

pub returns : goal.returns
returns c = search (
  movement-put,
  c.put_front-a.ensures,
  c.put_internal-b.ensures,
  c.put_bytes-c.ensures,
  c.put_numbers-d.ensures,
  c.put_end.ensures,
)

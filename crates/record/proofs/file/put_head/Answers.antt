-- `put_head`: five texts, each behind the one before. What is known of far ones is given by its place: a search does not reach it. Assumes nothing.
use Rattle.record.proofs.file.Records.{before-room, balances-room, turnovers-room, end-room, head-put}
use Rattle.record.proofs.file.put_head.Goals as goal

pub put_bytes-b-requires : goal.put_bytes-b-requires
put_bytes-b-requires c = search before-room

pub put_pair-c-requires : goal.put_pair-c-requires
put_pair-c-requires c = search balances-room

pub put_pair-d-requires : goal.put_pair-d-requires
put_pair-d-requires c = turnovers-room _ _ _ _ _ _ _ _
    c.put_front-a.ensures
    c.requires.at_in_bounds.0
    c.requires.at_in_bounds.1
    _ _
    c.put_bytes-b.ensures
    _ _ _ _
    c.put_pair-c.ensures

pub put_end-requires : goal.put_end-requires
put_end-requires c = end-room _ _ _ _ _ _ _ _
    c.put_front-a.ensures
    c.requires.at_in_bounds.0
    c.requires.at_in_bounds.1
    _ _
    c.put_bytes-b.ensures
    _ _ _ _
    c.put_pair-c.ensures
    _ _ _ _ _
    c.put_pair-d.ensures
    c.requires.at_in_bounds.2

pub returns : goal.returns
returns c = search (
  head-put,
  c.put_front-a.ensures,
  c.put_bytes-b.ensures,
  c.put_pair-c.ensures,
  c.put_pair-d.ensures,
  c.put_end.ensures,
)

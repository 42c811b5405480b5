-- The closing lines that are due: room for them, and what they leave. Assumes nothing.
use mathlib.Core.Path.{◌≡◌}
use mathlib.Core.Bool.{Bool, true, false}
use mathlib.Core.List.{List, ◌++◌}
use Prim.Native.Nat.{ℕ, ◌+◌, ◌≤◌}
use native.Mathlib.Omega.{arith}
use lib.ListN.{length}
use Rattle.base.specs.Put.{Wrote}
use Rattle.base.proofs.Put.{◌then◌}
use Rattle.out.proofs.put.Room.{wrote_none, room-first, room-then}
use Rattle.paper.specs.ClosingLine.{spell_close}
use Rattle.roundtrip.specs.flat.Flat.{line_of, group_ends, file_ends}
use Rattle.spelling.specs.file.Lines.{stage_when}

module _ (due : Bool) (o : List ℕ) (at : ℕ) where
  -- a group's
  module _ (room : at + length (group_ends (stage_when due)) ≤ length o) where
    pub group-room : due ≡ true → at + length (line_of (spell_close 51)) ≤ length o
    unfolding group_ends
    group-room e = rw e at room

    pub group-none : due ≡ false → Wrote o at (group_ends (stage_when due)) o at
    unfolding group_ends
    group-none e = let h = rw e at room in rw e (wrote_none o at (omega arith))

  pub group-closed : due ≡ true → (o1 : List ℕ) (p : ℕ) → Wrote o at (line_of (spell_close 51)) o1 p → Wrote o at (group_ends (stage_when due)) o1 p
  unfolding group_ends
  group-closed e o1 p w = rw e w

  -- a group's and its account file's
  module _ (room : at + length (file_ends (stage_when due)) ≤ length o) where
    both-room : due ≡ true → at + length (line_of (spell_close 51) ++ line_of (spell_close 53)) ≤ length o
    unfolding file_ends
    both-room e = rw e at room

    pub file-room : due ≡ true → at + length (line_of (spell_close 51)) ≤ length o
    file-room e = room-first (line_of (spell_close 51)) (line_of (spell_close 53)) at (length o) (both-room e)

    pub file-then : due ≡ true → (o1 : List ℕ) (p : ℕ) → Wrote o at (line_of (spell_close 51)) o1 p → p + length (line_of (spell_close 53)) ≤ length o1
    file-then e o1 p w = room-then (line_of (spell_close 53)) w (both-room e)

    pub file-none : due ≡ false → Wrote o at (file_ends (stage_when due)) o at
    unfolding file_ends
    file-none e = let h = rw e at room in rw e (wrote_none o at (omega arith))

  pub file-closed : due ≡ true → (o1 : List ℕ) (p : ℕ) → Wrote o at (line_of (spell_close 51)) o1 p → (o2 : List ℕ) (q : ℕ)
      → Wrote o1 p (line_of (spell_close 53)) o2 q → Wrote o at (file_ends (stage_when due)) o2 q
  unfolding file_ends
  file-closed e o1 p v o2 q w = rw e (v then w)

pub ruleset ends = (group-room, group-none, group-closed, file-room, file-then, file-none, file-closed)

-- What a counting writer answers, and what it leaves in the lent output. Assumes nothing.
use Rattle.std.specs.Prelude.{◌≡◌, ℕ, ◌+◌, ◌^◌, ◌<◌, ◌≤◌, List, length}
use Rattle.base.specs.Put.{put}

-- What a counting writer does: it was given o and the text `new` for the place `at`; o' is what it left, and r is the place behind the
-- text, whatever the room. Where the text has room, o' has it; where not, some of it may be there. A text whose end is no place of 64
-- bits is not counted.
pub record Counted (o : List ℕ) (at : ℕ) (new o' : List ℕ) (r : ℕ) : Type 0 where
  pub long : length o' ≡ length o
  pub next : at + length new < 2 ^ 64 → r ≡ at + length new
  pub left : at + length new < 2 ^ 64 → at + length new ≤ length o → o' ≡ put o at new

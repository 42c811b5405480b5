-- What a sentence is made of: bytes that a terminal and a log show, and the end of a line. Document 02, W-205. Assumes nothing.
use Rattle.std.specs.Prelude.{ℕ, Bool, true, false, eqb, ltb, leb}
use Rattle.base.specs.Pick.{pick}

-- LF, or 32 to 126
unfoldable pub is_printable : ℕ → Bool
is_printable x = pick (eqb x 10) true (pick (ltb x 32) false (leb x 126))

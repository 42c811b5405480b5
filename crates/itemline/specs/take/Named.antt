-- A message and the name behind it, by their places. Document 01, "Lines", tail. Assumes nothing.
use Rattle.std.specs.Prelude.{ℕ, List, length}
use Rattle.text.specs.declared.span.Span.{Span}
use Rattle.text.specs.declared.span.Spans.{Spans}
use Rattle.text.specs.span.Places.{four_from}
use Rattle.text.specs.Finish.{name_at}
use Rattle.text.specs.division.Unnamed.{unnamed}

-- where the name stands behind the message of the line s that begins at `from`
abbrev pub name_of : List ℕ → ℕ → Span
name_of s from = name_at (length (unnamed s from)) (length s)

-- the parts of that message, and its name
unfoldable pub with_name : List ℕ → ℕ → Spans
with_name s from = four_from (unnamed s from) from (name_of s from).at (name_of s from).len

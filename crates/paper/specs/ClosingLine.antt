-- The lines that close a group and an account file. Document 01, "Lines", `3 +` and `5 +`. Assumes nothing.
use Rattle.std.specs.Prelude.{ℕ, ◌+◌, Bool, List, [], ◌∷◌, eqb, drop}
use Rattle.base.specs.Pick.{pick}
use Rattle.base.specs.Seek.{starts}
use Rattle.paper.specs.Bytes.{space}
use Rattle.paper.specs.Entries.{Entry, Listed, plain, no, line_end}

-- a plus and nothing more: 4 at the first wrong byte
unfoldable pub plus_at : Entry → ℕ → List ℕ → Listed
plus_at e at [] = no 4 at
plus_at e at (x ∷ s) = pick (eqb x 43) (line_end (at + 1) s (plain e)) (no 4 at)

-- behind the line's first byte: a space and a plus; on C and E (`near`) also a plus at once
unfoldable pub read_close : Bool → Entry → List ℕ → Listed
read_close near e s = pick (starts space (drop 1 s)) (plus_at e 2 (drop 2 s)) (pick near (plus_at e 1 (drop 1 s)) (no 4 1))

-- "Canonical spelling": trailers with a space
abbrev pub spell_close : ℕ → List ℕ
spell_close digit = digit ∷ 32 ∷ 43 ∷ []

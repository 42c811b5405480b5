-- The room in which any input of 8 KiB can be rewritten. Document 01, "A whole run". Assumes nothing.
use Rattle.std.specs.Prelude.{ℕ}

-- "8 KiB in all": no longer input is read
abbrev pub most_input : ℕ
most_input = 8192

-- a line that gives a row has 8 bytes or more
abbrev pub most_rows : ℕ
most_rows = 1024

-- a row brings an item's line of at most 343 bytes and CR LF, or less than that; at the top stands the first line, and what is open at the
-- end is closed: 58 bytes and CR LF, then at most 20 digits of a total and the two closing lines
abbrev pub most_output : ℕ
most_output = 353370

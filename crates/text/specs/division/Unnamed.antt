-- A line up to the name behind a message, and the bytes that end no part. Document 01, "Lines", tail. Assumes nothing.
use Rattle.std.specs.Prelude.{ℕ, ◌+◌, Bool, false, List, take, drop}
use Rattle.base.specs.Pick.{pick}
use Rattle.base.specs.Seek.{seek}
use Rattle.paper.specs.Bytes.{mark}
use Rattle.scan.specs.block.Blocks.{is_other}

-- the line s up to the first ` NP:` at or after `from`
abbrev pub unnamed : List ℕ → ℕ → List ℕ
unnamed s from = take (from + seek mark (drop from s)) s

-- neither `|` nor `:`
unfoldable pub is_plain : ℕ → Bool
is_plain b = pick (is_other 124 b) (is_other 58 b) false

-- A place in a line that was answered. Assumes nothing.
use Rattle.std.specs.Prelude.{ℕ, ◌+◌, ◌≤◌, ◌≡◌}
use Rattle.reader.specs.Named.{LineAnswer}

-- a line was found, and the byte p is one of it, or stands right behind its last one
abbrev pub Holds : LineAnswer → ℕ → Type 0
Holds a p = (a.found ≡ 1) × (a.at ≤ p) × (p ≤ a.at + a.len)

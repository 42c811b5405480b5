-- The numbers that a refusal may have. Document 01, "Numbers returned". Assumes nothing.
use Rattle.std.specs.Prelude.{ℕ, ◌≤◌, ◌≡◌}

-- A line's own refusal is one of 4 to 9 and 11 to 14: 3 and 15 come before its fields, 10 once its group is closed.
abbrev pub Own : ℕ → Type 0
Own n = (4 ≤ n) × (n ≤ 14) × (n ≡ 10 → ⊥)

-- A file is refused with 3 to 15; the other numbers speak of the call, of the lent room and of what is to be written.
abbrev pub Judged : ℕ → Type 0
Judged n = (3 ≤ n) × (n ≤ 15)

-- Which numbers account files that were judged before may have. Document 01, "Lines". Assumes nothing.
use Rattle.std.specs.Prelude.{ℕ}

-- which they are was judged: none is refused
abbrev pub any_number : ℕ → ℕ
any_number n = 0

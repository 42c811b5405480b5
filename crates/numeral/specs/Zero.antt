-- The digit 0 as a byte. Assumes nothing.
use Rattle.std.specs.Prelude.{ℕ, Bool, ◌==◌}

abbrev pub is_zero : ℕ → Bool
is_zero x = x == 48

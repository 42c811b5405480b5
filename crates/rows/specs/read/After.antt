-- What a test of a row means for the verdict: document 01, "Numbers returned", 20 and 21. Assumes nothing.
use Rattle.std.specs.Prelude.{ℕ, Result, Ok, Err}
use Rattle.paper.specs.Proper.{Verdict, wrong}
use Rattle.rows.specs.declared.field.Field.{Field}
use Rattle.rows.specs.field.Numbers.{numbered}

-- row k has passed, and the rest is judged; or its field of this number is wrong
abbrev pub after_number : ℕ → Result (Unit {0}) ℕ → Verdict → Verdict
after_number k (Ok u) rest = rest
after_number k (Err n) rest = wrong k n

-- .. where the test names the field
abbrev pub after : ℕ → Result (Unit {0}) Field → Verdict → Verdict
after k c rest = after_number k (numbered c) rest

-- What the answer of a number's reader stands for in document 01, "Numbers returned". Assumes nothing.
use Rattle.std.specs.Prelude.{ℕ, Result, Ok, Err}
use Rattle.refusal.specs.declared.Refusal.{Refusal}
use Rattle.refusal.specs.Numbers.{number_of}
use Rattle.paper.specs.Read.{Field, value, fault}

-- the number that was read, or the number of the refusal
abbrev pub told : Result ℕ Refusal → Field ℕ
told (Ok v) = value v
told (Err r) = fault (number_of r)

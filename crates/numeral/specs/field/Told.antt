-- What the answers of a number's reader and of a judge stand for in document 01, "Numbers returned". Assumes nothing.
use Rattle.std.specs.Prelude.{ℕ, Result, Ok, Err}
use Rattle.refusal.specs.declared.Refusal.{Refusal}
use Rattle.refusal.specs.Numbers.{number_of}
use Rattle.numeral.specs.field.At.{At, found, missed}
use Rattle.numeral.specs.declared.field.Run.{Run}

-- the number that was read and its field's end, or the number of the refusal
abbrev pub told : Result Run Refusal → At ℕ
told (Ok run) = found run.value run.end
told (Err r) = missed (number_of r)

-- the end of a field of which nothing is kept, or the refusal's number
abbrev pub passed : Result ℕ Refusal → At (Unit {0})
passed (Ok e) = found tt e
passed (Err r) = missed (number_of r)

-- What is told of a field's rules: that all are kept, or the numbers of the first that is broken. Document 02, W-205. Assumes nothing.
use Rattle.std.specs.Prelude.{ℕ, Result, Ok, Err}
use Rattle.why.specs.Rule.{Tested, kept, broke}
use Rattle.fault.specs.declared.field.Broken.{Broken}

abbrev pub Ruling : Type 0
Ruling = Result (Unit {0}) Broken

-- a refusal's number, a cause, and from what to what is allowed
abbrev pub broken : ℕ → ℕ → ℕ → ℕ → Broken
broken n why a b = record { number = n; cause = why; least = a; most = b }

-- a rule without its test
unfoldable pub ruling : Tested → Ruling
ruling kept = Ok tt
ruling (broke r) = Err (broken r.number r.cause r.least r.most)

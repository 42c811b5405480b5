-- A refusal and its place in a line. Assumes nothing.
use Rattle.std.specs.Prelude.{ℕ, Result, Ok, Err}
use Rattle.refusal.specs.declared.Refusal.{Refusal}
use Rattle.refusal.specs.declared.Flaw.{Flaw}

-- what was read stays, a refusal takes its place along
abbrev pub placed : {T : Type 0} → Result T Refusal → ℕ → Result T Flaw
placed (Ok v) at = Ok v
placed (Err r) at = Err (record { 0 = r; 1 = at })

-- Refusals of a line as refusals of the file. Assumes nothing.
use Rattle.std.specs.Prelude.{ℕ, ◌+◌, ◌≤◌, Result, Ok, Err}
use Rattle.refusal.specs.declared.Refusal.{Refusal}
use Rattle.refusal.specs.declared.Flaw.{Flaw}
use Rattle.judge.specs.declared.refused.Refused.{Refused}

-- line k is refused, at this byte of the file
abbrev pub refused : {T : Type 0} → Refusal → ℕ → ℕ → Result T Refused
refused r k byte = Err (record { refusal = r; line = k; byte = byte })

-- the place of a refusal lies in the line from `at` to `stop`
abbrev pub Within : {T : Type 0} → Result T Flaw → ℕ → ℕ → Type 0
Within (Ok v) at stop = Unit {0}
Within (Err x) at stop = at + x.1 ≤ stop

-- what line k says, which begins at `at`
abbrev pub lined : {T : Type 0} → Result T Flaw → ℕ → ℕ → Result T Refused
lined (Ok v) k at = Ok v
lined (Err x) k at = refused x.0 k (at + x.1)

-- What the answers of the judge of an item's line stand for. Assumes nothing.
use Rattle.std.specs.Prelude.{ℕ, ◌≤◌, List, length, drop, Result, Ok, Err}
use Rattle.refusal.specs.declared.Flaw.{Flaw}
use Rattle.refusal.specs.Numbers.{number_of}
use Rattle.paper.specs.Entries.{Counted, no}
use Rattle.itemline.specs.judge.Brief.{kept}
use Rattle.itemline.specs.declared.judge.Judged.{Judged}

-- an item's amount and warnings; or the refusal's number and its offset in the line
abbrev pub told : Result Judged Flaw → Counted
told (Ok j) = kept j.amount j.warnings
told (Err x) = no (number_of x.0) x.1

-- the reading goes on (k) with the line from the payee on; or it is refused
abbrev pub told_from : List ℕ → Result ℕ Flaw → (ℕ → List ℕ → Counted) → Counted
told_from s (Ok at) k = k at (drop at s)
told_from s (Err x) k = no (number_of x.0) x.1

-- the payee begins in the line, or with its end
abbrev pub InsideFrom : List ℕ → Result ℕ Flaw → Type 0
InsideFrom s (Ok at) = at ≤ length s
InsideFrom s (Err x) = Unit

-- What is told of a line's walk: that it passed, or the numbers of its first fault. Document 02, W-205. Assumes nothing.
use Rattle.std.specs.Prelude.{ℕ, ◌+◌, ◌-◌, ltb, Result, Ok, Err}
use Rattle.base.specs.Pick.{pick}
use Rattle.why.specs.Names.{field_number}
use Rattle.why.specs.Walk.{Walked, passed, stopped}
use Rattle.fault.specs.declared.line.Fault.{Fault}
use Rattle.fault.specs.field.Ruled.{Ruling}

abbrev pub Walk : Type 0
Walk = Result (Unit {0}) Fault

-- a refusal's number, a cause, where and how long what was found is, the field's number, and from what to what is allowed
abbrev pub stop : ℕ → ℕ → ℕ → ℕ → ℕ → ℕ → ℕ → Fault
stop n why at l field a b = record { number = n; cause = why; offset = at; length = l; field = field; least = a; most = b }

-- the field by its number
unfoldable pub walk : Walked → Walk
walk passed = Ok tt
walk (stopped x) = Err (stop x.number x.cause x.offset x.length (field_number x.field) x.least x.most)

-- a field at `at` of n bytes was ruled on: its rule that is broken is the line's fault
unfoldable pub in_line : Ruling → ℕ → ℕ → ℕ → Walk
in_line (Ok u) at n field = Ok tt
in_line (Err r) at n field = Err (stop r.number r.cause at n field r.least r.most)

-- .. and the next field begins behind a space: a field that keeps its rules and ends a line of n bytes lacks the next one
unfoldable pub to_next : ℕ → Ruling → ℕ → ℕ → ℕ → Result ℕ Fault
to_next n (Ok u) at end field = pick (ltb end n) (Ok (end + 1)) (Err (stop 4 41 end 0 (field + 1) 0 0))
to_next n (Err r) at end field = Err (stop r.number r.cause at (end - at) field r.least r.most)

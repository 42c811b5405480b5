-- Which payee banks an answer lets through. Document 02, W-202. Assumes nothing.
use Rattle.std.specs.Prelude.{ℕ, Bool, true, false, eqb}
use Rattle.calendar.specs.declared.term.Banks.{Banks}
use Rattle.calendar.specs.declared.term.Banks.TheVariants.{Any, Own, Nobody}

-- any; the own one alone; none
abbrev pub allows : Banks → ℕ → ℕ → Bool
allows Any own bank = true
allows Own own bank = eqb bank own
allows Nobody own bank = false

-- Worked days: computed. Assumes nothing.
use mathlib.Core.Path.{◌≡◌, refl}
use mathlib.Core.Bool.{Bool, true, false}
use mathlib.Core.List.{[], ◌∷◌}
use Prim.Native.Nat.{ℕ}
use Rattle.base.specs.Pick.{pick}
use Rattle.paper.specs.Bytes.{is_digit}
use Rattle.paper.specs.Numerals.{digits, digits_on, fixed, fixed_on}
use Rattle.paper.specs.Read.{value, fault, given}
use Rattle.paper.specs.Days.{leap, month_days, real_day, years_days, months_days, day_number, real, short_day, long_day, read_day, spell_day, past, due_allowed, month_ahead, collect_allowed}

-- 28 February 2100 is not a day of the batch, 29 February 2024 is, 29 February 2023 is not
pub days : (real_day 21000228 ≡ false) × (real_day 20240229 ≡ true) × (real_day 20230229 ≡ false)
unfolding real_day month_days leap pick
days = (refl, refl, refl)

-- the first day and the last
pub ends : (day_number 20000101 ≡ 0) × (day_number 20991231 ≡ 36524)
unfolding day_number years_days months_days month_days leap pick
ends = (refl, refl)

-- `290224`, `290223` and `20240229` as dates, the last in the long form; and a day's spelling
pub dates : (read_day false (50 ∷ 57 ∷ 48 ∷ 50 ∷ 50 ∷ 52 ∷ []) ≡ value 20240229)
    × (read_day true (50 ∷ 57 ∷ 48 ∷ 50 ∷ 50 ∷ 51 ∷ []) ≡ fault 11)
    × (read_day true (50 ∷ 48 ∷ 50 ∷ 52 ∷ 48 ∷ 50 ∷ 50 ∷ 57 ∷ []) ≡ value 20240229)
    × (read_day false (50 ∷ 48 ∷ 50 ∷ 52 ∷ 48 ∷ 50 ∷ 50 ∷ 57 ∷ []) ≡ fault 4)
    × (spell_day 20240229 ≡ 50 ∷ 57 ∷ 48 ∷ 50 ∷ 50 ∷ 52 ∷ [])
unfolding read_day short_day long_day real real_day month_days leap digits digits_on is_digit given spell_day fixed fixed_on pick
dates = (refl, refl, refl, refl, refl)

-- up to 364 days ahead: 30 December from 1 January 2024, and not the day after; a past day as the sheet says
pub dues : (due_allowed true false 364 20240101 20241230 ≡ true) × (due_allowed true false 364 20240101 20241231 ≡ false)
    × (due_allowed true false 364 20240101 20231231 ≡ false) × (due_allowed true true 365 20240101 20231231 ≡ true)
unfolding due_allowed past day_number years_days months_days month_days leap pick
dues = (refl, refl, refl, refl)

-- One month ahead: from the ends of January in 2018 and in a leap year, from 28 and 29 February, from 31 March and 31 December, and over the year's end; and
-- from the ends of the calendar, where it lies in 2100.
pub months-ahead : (month_ahead 20180101 ≡ 20180201) × (month_ahead 20180127 ≡ 20180227) × (month_ahead 20180128 ≡ 20180228) × (month_ahead 20180129 ≡ 20180228)
    × (month_ahead 20180130 ≡ 20180228) × (month_ahead 20180131 ≡ 20180228) × (month_ahead 20240129 ≡ 20240229) × (month_ahead 20240131 ≡ 20240229)
    × (month_ahead 20180228 ≡ 20180328) × (month_ahead 20240229 ≡ 20240329) × (month_ahead 20180331 ≡ 20180430) × (month_ahead 20180531 ≡ 20180630)
    × (month_ahead 20181130 ≡ 20181230) × (month_ahead 20181201 ≡ 20190101) × (month_ahead 20181231 ≡ 20190131) × (month_ahead 20991130 ≡ 20991230)
    × (month_ahead 20991201 ≡ 21000101) × (month_ahead 20991231 ≡ 21000131)
unfolding month_ahead month_days leap pick
months-ahead = (refl, refl, refl, refl, refl, refl, refl, refl, refl, refl, refl, refl, refl, refl, refl, refl, refl, refl)

-- may a collection be due on that day from the own bank, and from another?
abbrev collected : Bool → Bool → ℕ → ℕ → Type 0
collected own other today d = (collect_allowed true today d ≡ own) × (collect_allowed false today d ≡ other)

-- The day before, today, tomorrow; the day before the last one, the last one, the day behind it
pub spans : collected false false 20180101 20171231 × collected true false 20180101 20180101 × collected true true 20180101 20180102
    × collected true true 20180101 20180131 × collected true true 20180101 20180201 × collected false false 20180101 20180202
unfolding collect_allowed month_ahead month_days leap pick
spans = ((refl, refl), (refl, refl), (refl, refl), (refl, refl), (refl, refl), (refl, refl))

-- .. from 31 January, in 2018 and in a leap year
pub january-spans : collected true false 20180131 20180131 × collected true true 20180131 20180201 × collected true true 20180131 20180227
    × collected true true 20180131 20180228 × collected false false 20180131 20180301 × collected true true 20240131 20240228
    × collected true true 20240131 20240229 × collected false false 20240131 20240301
unfolding collect_allowed month_ahead month_days leap pick
january-spans = ((refl, refl), (refl, refl), (refl, refl), (refl, refl), (refl, refl), (refl, refl), (refl, refl), (refl, refl))

-- .. from 28 February and from 31 December
pub other-spans : collected true true 20180228 20180327 × collected true true 20180228 20180328 × collected false false 20180228 20180329
    × collected false false 20180228 20180331 × collected true false 20181231 20181231 × collected true true 20181231 20190130
    × collected true true 20181231 20190131 × collected false false 20181231 20190201
unfolding collect_allowed month_ahead month_days leap pick
other-spans = ((refl, refl), (refl, refl), (refl, refl), (refl, refl), (refl, refl), (refl, refl), (refl, refl), (refl, refl))

-- .. at the end of the calendar, where another bank has no day left
pub last-spans : collected false false 20991201 20991130 × collected true false 20991201 20991201 × collected true true 20991201 20991231
    × collected false false 20991231 20991230 × collected true false 20991231 20991231
unfolding collect_allowed month_ahead month_days leap pick
last-spans = ((refl, refl), (refl, refl), (refl, refl), (refl, refl), (refl, refl))

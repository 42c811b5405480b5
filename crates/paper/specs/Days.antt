-- Days: which are real, how far one lies ahead of another, how they are spelled. Document 01, "The batch" and "Lines". Assumes nothing.
-- A day is the number YYYYMMDD, so 20240229 is 29 February 2024.
use Rattle.std.specs.Prelude.{ℕ, zero, suc, ◌+◌, ◌-◌, ◌*◌, ◌/◌, ◌%◌, Bool, true, false, List, [], ◌∷◌, eqb, ltb, leb, length, get_or}
use Rattle.base.specs.Pick.{pick}
use Rattle.paper.specs.Read.{Field, value, fault, given}
use Rattle.paper.specs.Numerals.{digits, fixed}

-- the year YYYY of a day
abbrev pub year_of : ℕ → ℕ
year_of d = d / 10000

-- its month MM
abbrev pub month_of : ℕ → ℕ
month_of d = d / 100 % 100

-- its day DD
abbrev pub day_of : ℕ → ℕ
day_of d = d % 100

-- every fourth year has 29 February, but of the full hundreds only every fourth
unfoldable pub leap : ℕ → Bool
leap y = pick (eqb (y % 100) 0) (eqb (y % 400) 0) (eqb (y % 4) 0)

-- how many days the months January to December have, in a year with no 29 February
abbrev pub months : List ℕ
months = 31 ∷ 28 ∷ 31 ∷ 30 ∷ 31 ∷ 30 ∷ 31 ∷ 31 ∷ 30 ∷ 31 ∷ 30 ∷ 31 ∷ []

-- the days of month m, 1 to 12, of year y
unfoldable pub month_days : ℕ → ℕ → ℕ
month_days y m = pick (eqb m 2) (pick (leap y) 29 28) (get_or months (m - 1) 0)

-- "The batch": dates are real days of 2000 to 2099
unfoldable pub real_day : ℕ → Bool
real_day d =
    pick (ltb (year_of d) 2000) false
    (pick (ltb 2099 (year_of d)) false
    (pick (ltb (month_of d) 1) false
    (pick (ltb 12 (month_of d)) false
    (pick (ltb (day_of d) 1) false
    (leb (day_of d) (month_days (year_of d) (month_of d)))))))

-- the days of the first n years from 2000 on
unfoldable pub years_days : ℕ → ℕ
years_days zero = 0
years_days (suc n) = years_days n + pick (leap (2000 + n)) 366 365

-- the days of the first m months of year y
unfoldable pub months_days : ℕ → ℕ → ℕ
months_days y zero = 0
months_days y (suc m) = months_days y m + month_days y (suc m)

-- how many days lie between 1 January 2000 and the day d
unfoldable pub day_number : ℕ → ℕ
day_number d = years_days (year_of d - 2000) + months_days (year_of d) (month_of d - 1) + (day_of d - 1)

-- 11 where a day is not real
unfoldable pub real : ℕ → Field ℕ
real d = pick (real_day d) (value d) (fault 11)

-- "Lines": DDMMRR, where RR means 20RR
unfoldable pub short_day : List ℕ → Field ℕ
short_day s = given (digits 6 6 s) λ n. real ((2000 + n % 100) * 10000 + n / 100 % 100 * 100 + n / 10000)

-- RRRRMMDD
unfoldable pub long_day : List ℕ → Field ℕ
long_day s = given (digits 8 8 s) real

-- a date, in the second form only where a sheet takes it
unfoldable pub read_day : Bool → List ℕ → Field ℕ
read_day long s = pick (pick long (eqb (length s) 8) false) (long_day s) (short_day s)

-- "Canonical spelling": DDMMRR
unfoldable pub spell_day : ℕ → List ℕ
spell_day d = fixed 6 (day_of d * 10000 + month_of d * 100 + year_of d % 100)

-- "Lines", due date: is the day before today?
unfoldable pub past : ℕ → ℕ → Bool
past today d = ltb (day_number d) (day_number today)

-- A sheet takes a past day or not (`early`), and others up to so many days ahead.
-- K: none past, 364; S: none past, any; C and P: past, 365; E: past, any.
-- That is where the day is judged at its own field (`here`); elsewhere every real day passes there.
unfoldable pub due_allowed : Bool → Bool → ℕ → ℕ → ℕ → Bool
due_allowed here early ahead today d = pick here (pick (past today d) early (leb (day_number d - day_number today) ahead)) true

-- a past day is warned of once, where it is judged, on a sheet that warns of it
unfoldable pub due_warnings : Bool → Bool → ℕ → ℕ → ℕ
due_warnings here warns today d = pick here (pick (past today d) (pick warns 1 0) 0) 0

-- a due date: 11 also where the day is not among the sheet's days
unfoldable pub read_due : Bool → Bool → Bool → ℕ → ℕ → List ℕ → Field ℕ
read_due long here early ahead today s = given (read_day long s) λ d. pick (due_allowed here early ahead today d) (value d) (fault 11)

-- Document 02, W-202: day d of month m of year y, or that month's last day if it is shorter
abbrev pub day_in : ℕ → ℕ → ℕ → ℕ
day_in y m d = y * 10000 + m * 100 + pick (ltb (month_days y m) d) (month_days y m) d

-- "one month ahead": the same day of the next month. From December 2099 it lies in 2100, behind every real day.
unfoldable pub month_ahead : ℕ → ℕ
month_ahead d =
    pick (eqb (month_of d) 12)
    (day_in (year_of d + 1) 1 (day_of d))
    (day_in (year_of d) (month_of d + 1) (day_of d))

-- A collection is due from today on, if it comes from the sheet's own bank, or from tomorrow on, if from any other, up to one month ahead. Days
-- as numbers YYYYMMDD have the order of days.
unfoldable pub collect_allowed : Bool → ℕ → ℕ → Bool
collect_allowed own today d = pick (pick own (ltb d today) (leb d today)) false (leb d (month_ahead today))

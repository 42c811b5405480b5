-- The number of a day in closed form. Assumes nothing.
use mathlib.Core.Path.{◌≡◌, refl, sym, ◌∙◌}
use mathlib.Core.Bool.{true}
use mathlib.Core.List.{List, [], ◌∷◌}
use Prim.Native.Nat.{ℕ, zero, suc, ◌+◌, ◌-◌, ◌*◌, ◌/◌, ◌%◌, ◌≤◌, ◌<◌}
use native.Mathlib.Omega.{arith}
use mir.Val.{Fits}
use mir.Syntax.{w64}
use lib.Dec.{eqb, leb}
use lib.ListN.{get_or}
use borrow.Author.Tests.{leb-true, eq-eqb, ne_eqb, eqb-true}
use Rattle.base.specs.Pick.{pick}
use Rattle.base.proofs.Cases.{by-test, by-eq, either}
use Rattle.paper.specs.Days.{leap, months, month_days, months_days, years_days, day_number, real_day, year_of, month_of}
use Rattle.calendar.proofs.Below.{at_each}
use Rattle.calendar.proofs.Real.{leap-four, parts}

-- how many days lie before each month, in a year with no 29 February
abbrev pub before : List ℕ
before = 0 ∷ 31 ∷ 59 ∷ 90 ∷ 120 ∷ 151 ∷ 181 ∷ 212 ∷ 243 ∷ 273 ∷ 304 ∷ 334 ∷ []

-- the table's rule: a month's days more
before_more : (m : ℕ) → m < 11 → get_or before (suc m) 0 ≡ get_or before m 0 + get_or months m 0
before_more m h = eqb-true _ _ (at_each (λ (i : ℕ). eqb (get_or before (suc i) 0) (get_or before i 0 + get_or months i 0)) 11 tt m h)

-- the years before a year, with the days that leap years add
pub years : (n : ℕ) → n ≤ 100 → years_days n ≡ 365 * n + (n + 3) / 4
unfolding years_days pick
years zero h = refl
years (suc n) h =
    rw (years n (omega arith), leap-four (2000 + n) (omega arith) (omega arith))
    (by-eq ((2000 + n) % 4) 0 (λ e. simp (eq-eqb _ _ e) (omega arith)) (λ e. simp (ne_eqb _ _ e) (omega arith)))

-- the months before February
pub early-months : (y m : ℕ) → m ≤ 1 → months_days y m ≡ get_or before m 0
unfolding months_days month_days pick
early-months y zero h = refl
early-months y (suc m) h = let e : m ≡ 0 = omega arith in rw e

-- January and February
february : (y : ℕ) → months_days y 2 ≡ 59 + pick (leap y) 1 0
unfolding months_days month_days pick
february y = by-test (leap y) (λ e. simp e) (λ e. simp e)

-- one month more
pub month-more : (y m : ℕ) → 1 ≤ m → months_days y m ≡ months_days y (m - 1) + month_days y m
unfolding months_days
month-more y zero h = absurd (omega arith)
month-more y (suc m) h = let e : suc m - 1 ≡ m = omega arith in rw e

-- every month but February
plain-month : (y m : ℕ) → (suc m ≡ 2 → ⊥) → month_days y (suc m) ≡ get_or months m 0
unfolding month_days pick
plain-month y m n = let e : suc m - 1 ≡ m = omega arith in rw (ne_eqb (suc m) 2 n, e)

-- the months up to one behind February
pub late-months : (y m : ℕ) → 2 ≤ m → m ≤ 11 → months_days y m ≡ get_or before m 0 + pick (leap y) 1 0
unfolding months_days
late-months y zero h k = absurd (omega arith)
late-months y (suc m) h k =
    by-eq m 1
    (λ e. rw e (february y))
    (λ n.
    let z : suc m ≡ 2 → ⊥ = λ (q : suc m ≡ 2). n (omega arith) in
    omega (arith, late-months y m (omega arith) (omega arith), plain-month y m z, before_more m (omega arith)))

-- a whole year
pub year-full : (y : ℕ) → months_days y 12 ≡ pick (leap y) 366 365
unfolding pick
year-full y =
    by-test (leap y)
    (λ e. rw e (omega (arith, month-more y 12 (omega arith), plain-month y 11 (λ (q : 12 ≡ 2). omega arith), rw e at (late-months y 11 (omega arith) (omega arith)))))
    (λ e. rw e (omega (arith, month-more y 12 (omega arith), plain-month y 11 (λ (q : 12 ≡ 2). omega arith), rw e at (late-months y 11 (omega arith) (omega arith)))))

-- a month has 28 to 31 days
pub month-28 : (y m : ℕ) → 1 ≤ m → m ≤ 12 → 28 ≤ month_days y m
unfolding month_days
month-28 y m h k =
    either (λ (n : ℕ). 28 ≤ n) (eqb m 2) (λ e. either (λ (n : ℕ). 28 ≤ n) (leap y) (λ f. omega arith) (λ f. omega arith))
    (λ e. leb-true _ _ (at_each (λ (i : ℕ). leb 28 (get_or months i 0)) 12 tt (m - 1) (omega arith)))

pub month-31 : (y m : ℕ) → 1 ≤ m → m ≤ 12 → month_days y m ≤ 31
unfolding month_days
month-31 y m h k =
    either (λ (n : ℕ). n ≤ 31) (eqb m 2) (λ e. either (λ (n : ℕ). n ≤ 31) (leap y) (λ f. omega arith) (λ f. omega arith))
    (λ e. leb-true _ _ (at_each (λ (i : ℕ). leb (get_or months i 0) 31) 12 tt (m - 1) (omega arith)))

-- The days before month m of a year are few, and the sum that the code makes fits a word.
before_small : (m : ℕ) → 1 ≤ m → m ≤ 12 → get_or before (m - 1) 0 ≤ 334
before_small m h k = leb-true _ _ (at_each (λ (i : ℕ). leb (get_or before i 0) 334) 12 tt (m - 1) (omega arith))

-- the number without the day that a 29 February adds
abbrev up_to : ℕ → ℕ
up_to d = 365 * (d / 10000 - 2000) + (d / 10000 - 2000 + 3) / 4 + get_or before (d / 100 % 100 - 1) 0

abbrev flat : ℕ → ℕ
flat d = up_to d + (d % 100 - 1)

module _ (d : ℕ) (r : real_day d ≡ true) where
  pub from-year : 2000 ≤ d / 10000
  from-year = (parts d r).from

  pub from-month : 1 ≤ d / 100 % 100
  from-month = (parts d r).first

  pub to-month : d / 100 % 100 - 1 < 12
  to-month = let p = parts d r in omega arith

  pub from-day : 1 ≤ d % 100
  from-day = (parts d r).low

  flat-small : flat d < 40000
  flat-small = let p = parts d r in omega (arith, before_small (month_of d) p.first p.last)

  pub fits-months : Fits w64 (up_to d)
  fits-months = omega (arith, flat-small)

  pub fits-days : Fits w64 (flat d)
  fits-days = omega (arith, flat-small)

  pub fits_one : Fits w64 (flat d + 1)
  fits_one = omega (arith, flat-small)

  -- up to February, and behind it
  pub number-early : d / 100 % 100 ≤ 2 → flat d ≡ day_number d
  unfolding day_number
  number-early h =
      let p = parts d r in
      omega (arith, years (year_of d - 2000) (omega arith), early-months (year_of d) (month_of d - 1) (omega arith))

  late : 2 < d / 100 % 100 → day_number d ≡ flat d + pick (leap (year_of d)) 1 0
  unfolding day_number
  late h =
      let p = parts d r in
      omega (arith, years (year_of d - 2000) (omega arith), late-months (year_of d) (month_of d - 1) (omega arith) (omega arith))

  module _ (h : 2 < d / 100 % 100) where
    pub number-leap : (d / 10000 - 2000) % 4 ≡ 0 → flat d + 1 ≡ day_number d
    unfolding pick
    number-leap e =
        let p = parts d r in
        let z : d / 10000 % 4 ≡ 0 = omega arith in
        sym (late h ∙ simp (leap-four (year_of d) p.from p.to, eq-eqb _ _ z))

    pub number-plain : ((d / 10000 - 2000) % 4 ≡ 0 → ⊥) → flat d ≡ day_number d
    unfolding pick
    number-plain n =
        let p = parts d r in
        let z : d / 10000 % 4 ≡ 0 → ⊥ = λ (q : d / 10000 % 4 ≡ 0). n (omega arith) in
        sym (late h ∙ simp (leap-four (year_of d) p.from p.to, ne_eqb _ _ z) (omega arith))

pub ruleset numbers = (from-year, from-month, to-month, from-day, fits-months, fits-days, fits_one, number-early, number-leap, number-plain)

-- Later days have greater numbers; how great a day and its number can be. Assumes nothing.
use mathlib.Core.Path.{◌≡◌}
use mathlib.Core.Bool.{true}
use mathlib.Core.Logic.{◌↔◌}
use Prim.Native.Nat.{ℕ, zero, suc, ◌+◌, ◌-◌, ◌≤◌, ◌<◌}
use native.Mathlib.Omega.{arith}
use Rattle.base.specs.Pick.{pick}
use Rattle.base.proofs.Cases.{by-eq, by-lt}
use Rattle.paper.specs.Days.{leap, month_days, months_days, years_days, day_number, real_day, year_of, month_of, day_of}
use Rattle.calendar.proofs.Real.{Parts, parts}
use Rattle.calendar.proofs.Number.{month-more, year-full}

-- later months, later years
months-up : (y m n : ℕ) → m ≤ n → months_days y m ≤ months_days y n
unfolding months_days
months-up y m zero h = let e : m ≡ 0 = omega arith in rw e (omega arith)
months-up y m (suc n) h =
    by-eq m (suc n) (λ e. rw e (omega arith)) (λ e. omega (arith, months-up y m n (omega arith)))

years-up : (m n : ℕ) → m ≤ n → years_days m ≤ years_days n
unfolding years_days
years-up m zero h = let e : m ≡ 0 = omega arith in rw e (omega arith)
years-up m (suc n) h =
    by-eq m (suc n) (λ e. rw e (omega arith)) (λ e. omega (arith, years-up m n (omega arith)))

-- one year more
pub year-more : (y : ℕ) → 2000 ≤ y → years_days (suc (y - 2000)) ≡ years_days (y - 2000) + pick (leap y) 366 365
unfolding years_days
year-more y h = let e : 2000 + (y - 2000) ≡ y = omega arith in rw e

-- a day of a month lies before the days of later months
before-month : (y m k n : ℕ) → 1 ≤ m → m ≤ n → 1 ≤ k → k ≤ month_days y m → months_days y (m - 1) + (k - 1) < months_days y n
before-month y m k n a b c d = omega (arith, month-more y m a, months-up y m n b)

-- and before the days of later years
before-year : (d n : ℕ) → Parts d → year_of d - 2000 < n → day_number d < years_days n
unfolding day_number
before-year d n p h =
    omega (
      arith,
      before-month (year_of d) (month_of d) (day_of d) 12 p.first p.last p.low p.high,
      year-full (year_of d),
      year-more (year_of d) p.from,
      years-up (suc (year_of d - 2000)) n (omega arith),
    )

module _ (d e : ℕ) (r : real_day d ≡ true) (s : real_day e ≡ true) where
  pub later : d < e → day_number d < day_number e
  unfolding day_number
  later h =
      let p = parts d r in
      let q = parts e s in
      by-lt (year_of d) (year_of e)
      (λ l. omega (arith, before-year d (year_of e - 2000) p (omega arith)))
      (λ l.
      let y : year_of e ≡ year_of d = omega arith in
      by-lt (month_of d) (month_of e)
      (λ m. rw y (omega (arith, before-month (year_of d) (month_of d) (day_of d) (month_of e - 1) p.first (omega arith) p.low p.high)))
      (λ m. let z : month_of e ≡ month_of d = omega arith in rw (y, z) (omega arith)))

module _ (d e : ℕ) (r : real_day d ≡ true) (s : real_day e ≡ true) where
  sooner : day_number d < day_number e → d < e
  sooner h =
      by-lt d e (λ l. l)
      (λ g. by-eq d e (λ q. absurd (omega (arith, rw q at h))) (λ n. absurd (omega (arith, later e d s r (omega arith)))))

  pub order : (d < e) ↔ (day_number d < day_number e)
  order = (later d e r s, sooner)

  -- no two days have the same number
  pub one-day : day_number d ≡ day_number e → d ≡ e
  one-day h =
      by-eq d e (λ q. q)
      (λ n. by-lt d e (λ l. absurd (omega (arith, later d e r s l))) (λ g. absurd (omega (arith, later e d s r (omega arith)))))

  pub not-later : e ≤ d → day_number e ≤ day_number d
  not-later g = by-lt (day_number d) (day_number e) (λ l. absurd (omega (arith, sooner l))) (λ h. h)

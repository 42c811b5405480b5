-- The days follow one another, and their numbers with them. Assumes nothing.
use mathlib.Core.Path.{◌≡◌}
use mathlib.Core.Bool.{true}
use Prim.Native.Nat.{ℕ, suc, ◌+◌, ◌-◌, ◌*◌, ◌/◌, ◌%◌, ◌≤◌, ◌<◌}
use native.Mathlib.Omega.{arith}
use lib.Dec.{ltb}
use borrow.Author.Tests.{ltb-true, ltb-false}
use Rattle.base.specs.Pick.{pick}
use Rattle.base.proofs.Cases.{either}
use Rattle.paper.specs.Days.{leap, month_days, months_days, day_number, real_day, year_of, month_of, day_of}
use Rattle.calendar.proofs.Real.{parts, whole}
use Rattle.calendar.proofs.Number.{month-more, month-28, month-31, year-full}
use Rattle.calendar.proofs.Order.{year-more}

-- the day after d
unfoldable pub next_day : ℕ → ℕ
next_day d =
    pick (ltb (day_of d) (month_days (year_of d) (month_of d))) (d + 1)
    (pick (ltb (month_of d) 12) (d / 100 * 100 + 101)
    (d / 10000 * 10000 + 10101))

-- within a month, at its end, at the end of a year
module _ (d : ℕ) (r : real_day d ≡ true) where
  next-day : day_of d < month_days (year_of d) (month_of d) → day_number (d + 1) ≡ day_number d + 1
  unfolding day_number
  next-day h =
      let p = parts d r in
      let b = month-31 (year_of d) (month_of d) p.first p.last in
      let y : (d + 1) / 10000 ≡ d / 10000 = omega arith in
      let m : (d + 1) / 100 % 100 ≡ d / 100 % 100 = omega arith in
      rw (y, m) (omega arith)

  next-month : day_of d ≡ month_days (year_of d) (month_of d) → month_of d < 12 → day_number (d / 100 * 100 + 101) ≡ day_number d + 1
  unfolding day_number
  next-month h k =
      let p = parts d r in
      let y : (d / 100 * 100 + 101) / 10000 ≡ d / 10000 = omega arith in
      let m : (d / 100 * 100 + 101) / 100 % 100 - 1 ≡ d / 100 % 100 = omega arith in
      rw (y, m) (omega (arith, month-more (year_of d) (month_of d) p.first))

  next-year : day_of d ≡ month_days (year_of d) (month_of d) → month_of d ≡ 12 → day_number (year_of d * 10000 + 10101) ≡ day_number d + 1
  unfolding day_number months_days
  next-year h k =
      let p = parts d r in
      let y : (d / 10000 * 10000 + 10101) / 10000 - 2000 ≡ suc (d / 10000 - 2000) = omega arith in
      let m : (d / 10000 * 10000 + 10101) / 100 % 100 - 1 ≡ 0 = omega arith in
      let full : months_days (year_of d) (month_of d) ≡ pick (leap (year_of d)) 366 365 = rw k (year-full (year_of d)) in
      rw (y, m) (omega (arith, month-more (year_of d) (month_of d) p.first, year-more (year_of d) p.from))

  day-real : day_of d < month_days (year_of d) (month_of d) → real_day (d + 1) ≡ true
  day-real h =
      let p = parts d r in
      let b = month-31 (year_of d) (month_of d) p.first p.last in
      let y : (d + 1) / 10000 ≡ d / 10000 = omega arith in
      let m : (d + 1) / 100 % 100 ≡ d / 100 % 100 = omega arith in
      whole (d + 1) record { from = omega arith; to = omega arith; first = omega arith; last = omega arith; low = omega arith; high = rw (y, m) (omega arith) }

  month-real : month_of d < 12 → real_day (d / 100 * 100 + 101) ≡ true
  month-real k =
      let p = parts d r in
      let y : (d / 100 * 100 + 101) / 10000 ≡ d / 10000 = omega arith in
      let m : (d / 100 * 100 + 101) / 100 % 100 ≡ d / 100 % 100 + 1 = omega arith in
      let b = month-28 (year_of d) (month_of d + 1) (omega arith) (omega arith) in
      let one : (d / 100 * 100 + 101) % 100 ≡ 1 = omega arith in
      whole _ record { from = omega arith; to = omega arith; first = omega arith; last = omega arith; low = omega arith; high = rw (y, m) (omega arith) }

  year-real : year_of d < 2099 → real_day (d / 10000 * 10000 + 10101) ≡ true
  year-real k =
      let p = parts d r in
      let y : (d / 10000 * 10000 + 10101) / 10000 ≡ d / 10000 + 1 = omega arith in
      let m : (d / 10000 * 10000 + 10101) / 100 % 100 ≡ 1 = omega arith in
      let b = month-28 (year_of d + 1) 1 (omega arith) (omega arith) in
      let one : (d / 10000 * 10000 + 10101) % 100 ≡ 1 = omega arith in
      whole _ record { from = omega arith; to = omega arith; first = omega arith; last = omega arith; low = omega arith; high = rw (y, m) (omega arith) }

  -- 31 December before the last day
  not_last : month_days (year_of d) (month_of d) ≤ day_of d → month_of d ≡ 12 → d < 20991231 → year_of d < 2099
  unfolding month_days pick
  not_last h k l =
      let p = parts d r in
      let z : month_days (year_of d) (month_of d) ≡ 31 = rw k in
      omega arith

  -- the next day has the next number
  pub next-number : day_number (next_day d) ≡ day_number d + 1
  unfolding next_day
  next-number =
      let p = parts d r in
      either (λ (e : ℕ). day_number e ≡ day_number d + 1) (ltb (day_of d) (month_days (year_of d) (month_of d)))
      (λ h. next-day (ltb-true _ _ h))
      (λ h.
      let last : day_of d ≡ month_days (year_of d) (month_of d) = omega (arith, ltb-false) in
      either (λ (e : ℕ). day_number e ≡ day_number d + 1) (ltb (month_of d) 12)
      (λ k. next-month last (ltb-true _ _ k))
      (λ k. next-year last (omega (arith, ltb-false))))

  -- and is a day, up to the last of 2099
  pub next-real : d < 20991231 → real_day (next_day d) ≡ true
  unfolding next_day
  next-real l =
      let p = parts d r in
      either (λ (e : ℕ). real_day e ≡ true) (ltb (day_of d) (month_days (year_of d) (month_of d)))
      (λ h. day-real (ltb-true _ _ h))
      (λ h.
      either (λ (e : ℕ). real_day e ≡ true) (ltb (month_of d) 12)
      (λ k. month-real (ltb-true _ _ k))
      (λ k. year-real (not_last (omega (arith, ltb-false)) (omega (arith, ltb-false)) l)))

-- One month ahead is what it says, and the days of a collection are told from the code's tests. Assumes nothing.
use mathlib.Core.Path.{◌≡◌, refl}
use mathlib.Core.Bool.{Bool, true, false}
use mathlib.Core.Logic.{◌⊎◌, inl, inr}
use Prim.Native.Nat.{ℕ, ◌+◌, ◌*◌, ◌/◌, ◌%◌, ◌≤◌, ◌<◌}
use native.Mathlib.Omega.{arith}
use lib.Dec.{ltb, leb}
use borrow.Author.Tests.{ltb-true, ltb-false, lt-ltb, le-ltb, lt-leb, le-leb, eq-eqb, ne_eqb}
use mir.Val.{Fits}
use mir.Syntax.{w64}
use Rattle.base.specs.Pick.{pick}
use Rattle.base.proofs.Cases.{either, by-eq}
use Rattle.paper.specs.Days.{year_of, month_of, day_of, month_days, real_day, day_in, month_ahead, collect_allowed}
use Rattle.calendar.specs.Ahead.{Ahead}
use Rattle.calendar.proofs.Real.{parts, whole}
use Rattle.calendar.proofs.Number.{month-28, month-31}

-- ---- the day itself

january : (y : ℕ) → month_days y 1 ≡ 31
unfolding month_days pick
january y = refl

module _ (d : ℕ) (r : real_day d ≡ true) where
  abbrev y : ℕ
  y = year_of d

  abbrev m : ℕ
  m = month_of d

  pub day-few : day_of d ≤ 31
  day-few = let p = parts d r in omega (arith, p.high, month-31 y m p.first p.last)

  -- the sums fit a word
  day-most : d < 21000000
  day-most = let p = parts d r in omega (arith, p.to)

  pub fits-year : Fits w64 ((d / 10000 + 1) * 10000)
  fits-year = omega (arith, day-most)

  pub fits-january : Fits w64 ((d / 10000 + 1) * 10000 + 100)
  fits-january = omega (arith, day-most)

  pub fits-ahead : Fits w64 ((d / 10000 + 1) * 10000 + 100 + d % 100)
  fits-ahead = omega (arith, day-most)

  pub fits-month : Fits w64 (d / 10000 * 10000 + (d / 100 % 100 + 1) * 100)
  fits-month = omega (arith, day-most)

  pub fits-same : Fits w64 (d / 10000 * 10000 + (d / 100 % 100 + 1) * 100 + d % 100)
  fits-same = omega (arith, day-most)

  -- December: January has as many days
  pub ahead-year : m ≡ 12 → (d / 10000 + 1) * 10000 + 100 + d % 100 ≡ month_ahead d
  unfolding month_ahead pick
  ahead-year e = rw (eq-eqb _ _ e, january (y + 1), le-ltb 31 (day_of d) day-few)

  -- another month: the next one is of the same year
  pub next-month : (m ≡ 12 → ⊥) → (2000 ≤ d / 10000) × (d / 10000 ≤ 2099) × (1 ≤ d / 100 % 100 + 1) × (d / 100 % 100 + 1 ≤ 12)
  next-month other = let p = parts d r in (p.from, p.to, omega arith, omega (arith, p.last))

  -- .. and has n days
  module _ (other : m ≡ 12 → ⊥) (n : ℕ) (days : n ≡ month_days (d / 10000) (d / 100 % 100 + 1)) where
    pub fits_last : Fits w64 (d / 10000 * 10000 + (d / 100 % 100 + 1) * 100 + n)
    fits_last =
        let p = parts d r in
        omega (arith, day-most, month-31 (year_of d) (month_of d + 1) (omega arith) (omega (arith, p.last)))

    pub ahead-last : n < d % 100 → d / 10000 * 10000 + (d / 100 % 100 + 1) * 100 + n ≡ month_ahead d
    unfolding month_ahead pick
    ahead-last h = rw (ne_eqb _ _ other, ← days, lt-ltb n (day_of d) h)

    pub ahead-same : d % 100 ≤ n → d / 10000 * 10000 + (d / 100 % 100 + 1) * 100 + d % 100 ≡ month_ahead d
    unfolding month_ahead pick
    ahead-same h = rw (ne_eqb _ _ other, ← days, le-ltb n (day_of d) h)

-- ---- what it says

-- the parts of a day that is put together of them
module _ (y m n : ℕ) (h : m ≤ 12) (k : n ≤ 31) where
  year-in : year_of (y * 10000 + m * 100 + n) ≡ y
  year-in = omega arith

  month-in : month_of (y * 10000 + m * 100 + n) ≡ m
  month-in = omega arith

  day-in : day_of (y * 10000 + m * 100 + n) ≡ n
  day-in = omega arith

-- a day in a month, or the month's last: it is real, and of that month
module _ (y m n : ℕ) (from : 2000 ≤ y) (to : y ≤ 2099) (first : 1 ≤ m) (last : m ≤ 12) (some : 1 ≤ n) (few : n ≤ 31) where
  record In (e : ℕ) : Type 0 where
    pub is-real : real_day e ≡ true
    pub year : year_of e ≡ y
    pub month : month_of e ≡ m
    pub day : (day_of e ≡ n) ⊎ ((day_of e ≡ month_days y m) × (day_of e < n))

  made : (k : ℕ) → 1 ≤ k → k ≤ month_days y m → (k ≡ n) ⊎ ((k ≡ month_days y m) × (k < n)) → In (y * 10000 + m * 100 + k)
  made k low high is =
      let most = month-31 y m first last in
      let a = year-in y m k last (omega arith) in
      let b = month-in y m k last (omega arith) in
      let c = day-in y m k last (omega arith) in
      record {
        is-real =
            whole (y * 10000 + m * 100 + k)
            (record {
              from = rw a from;
              to = rw a to;
              first = rw b first;
              last = rw b last;
              low = rw c low;
              high = rw (a, b, c) high;
            });
        year = a;
        month = b;
        day = rw c is;
      }

  in-month : In (day_in y m n)
  in-month =
      either (λ (k : ℕ). In (y * 10000 + m * 100 + k)) (ltb (month_days y m) n)
      (λ t. made (month_days y m) (omega (arith, month-28 y m first last)) (omega arith) (inr (refl, ltb-true _ _ t)))
      (λ t. made n some (ltb-false _ _ t) (inl refl))

-- one month ahead of a real day before December 2099 is a real day of the next month
module _ (d : ℕ) (r : real_day d ≡ true) (before : d < 20991201) where
  pub month-ahead : (real_day (month_ahead d) ≡ true) × Ahead d (month_ahead d)
  unfolding month_ahead pick
  month-ahead =
      let p = parts d r in
      by-eq (month_of d) 12
      (λ e.
      let i = in-month (year_of d + 1) 1 (day_of d) (omega (arith, p.from)) (omega (arith, p.to)) (omega arith) (omega arith) p.low (day-few d r) in
      rw (eq-eqb _ _ e) (i.is-real, record { month = omega (arith, i.year, i.month); day = rw (i.year, i.month) i.day }))
      (λ n.
      let i = in-month (year_of d) (month_of d + 1) (day_of d) p.from p.to (omega arith) (omega (arith, p.last)) p.low (day-few d r) in
      rw (ne_eqb _ _ n) (i.is-real, record { month = omega (arith, i.year, i.month); day = rw (i.year, i.month) i.day }))

-- from December 2099 on every later real day is within it
module _ (today d : ℕ) (s : real_day today ≡ true) (r : real_day d ≡ true) (from : 20991201 ≤ today) where
  within : d ≤ month_ahead today
  within =
      let p = parts today s in
      let e : month_of today ≡ 12 = omega (arith, p.to, p.last) in
      omega (arith, ahead-year today s e, day-most d r, p.from)

  pub own-later : today ≤ d → collect_allowed true today d ≡ true
  unfolding collect_allowed pick
  own-later h = rw (le-ltb d today h) (le-leb d (month_ahead today) within)

  pub any-later : today < d → (own : Bool) → collect_allowed own today d ≡ true
  unfolding collect_allowed pick
  any-later h true = own-later (omega arith)
  any-later h false = rw (lt-leb d today h) (le-leb d (month_ahead today) within)

-- ---- the days of a collection

module _ (own : Bool) (today last d : ℕ) (e : last ≡ month_ahead today) where
  pub collected-past : own ≡ true → d < today → false ≡ collect_allowed own today d
  unfolding collect_allowed pick
  collected-past o h = rw (o, lt-ltb d today h)

  pub collected-own : own ≡ true → today ≤ d → leb d last ≡ collect_allowed own today d
  unfolding collect_allowed pick
  collected-own o h = rw (o, le-ltb d today h, e)

  pub collected-today : own ≡ false → d ≤ today → false ≡ collect_allowed own today d
  unfolding collect_allowed pick
  collected-today o h = rw (o, le-leb d today h)

  pub collected-other : own ≡ false → today < d → leb d last ≡ collect_allowed own today d
  unfolding collect_allowed pick
  collected-other o h = rw (o, lt-leb d today h, e)

pub ruleset collections = (collected-past, collected-own, collected-today, collected-other)

pub ruleset months-ahead = (ahead-year, ahead-last, ahead-same, next-month, fits-year, fits-january, fits-ahead, fits-month, fits-same, fits_last)

-- From one day to a later one, the number of the day grows by no more than the day YYYYMMDD does. Assumes nothing.
use mathlib.Core.Path.{◌≡◌}
use mathlib.Core.Bool.{true}
use Prim.Native.Nat.{ℕ, zero, suc, ◌+◌, ◌-◌, ◌*◌, ◌≤◌}
use native.Mathlib.Omega.{arith}
use Rattle.base.specs.Pick.{pick}
use Rattle.base.proofs.Cases.{by-eq, by-lt, either}
use Rattle.paper.specs.Days.{leap, months_days, years_days, day_number, real_day, year_of, month_of, day_of}
use Rattle.calendar.proofs.Real.{Parts, parts}
use Rattle.calendar.proofs.Number.{month-31}

-- 31 days a month at most, and 366 a year
months-steep : (y m n : ℕ) → m ≤ n → n ≤ 12 → months_days y n ≤ months_days y m + 31 * (n - m)
unfolding months_days
months-steep y m zero h k = let e : m ≡ 0 = omega arith in rw e (omega arith)
months-steep y m (suc n) h k =
    by-eq m (suc n) (λ e. rw e (omega arith)) (λ e. omega (arith, months-steep y m n (omega arith) (omega arith), month-31 y (suc n) (omega arith) (omega arith)))

year-most : (y : ℕ) → pick (leap y) 366 365 ≤ 366
year-most y = either (λ (n : ℕ). n ≤ 366) (leap y) (λ e. omega arith) (λ e. omega arith)

years-steep : (m n : ℕ) → m ≤ n → years_days n ≤ years_days m + 366 * (n - m)
unfolding years_days
years-steep m zero h = let e : m ≡ 0 = omega arith in rw e (omega arith)
years-steep m (suc n) h =
    by-eq m (suc n) (λ e. rw e (omega arith)) (λ e. omega (arith, years-steep m n (omega arith), year-most (2000 + n)))

-- a day as years from 2000 on, months and days, each counted from 0
abbrev offset : ℕ → ℕ
offset d = 10000 * (year_of d - 2000) + 100 * (month_of d - 1) + (day_of d - 1)

offset-is : (d : ℕ) → Parts d → d ≡ 20000101 + offset d
offset-is d p = let q = p.from in let m = p.first in let n = p.low in omega arith

-- a, b and c are years, months and days of a day, i, j and k those of a later one, and v and w the two years
spread : (v w a b c i j k : ℕ) → b ≤ 11 → c ≤ 30 → j ≤ 11 → k ≤ 30 → (a ≡ i → v ≡ w) → 10000 * a + 100 * b + c ≤ 10000 * i + 100 * j + k
    → years_days i + months_days w j + k + (10000 * a + 100 * b + c) ≤ years_days a + months_days v b + c + (10000 * i + 100 * j + k)
unfolding months_days
spread v w a b c i j k hb hc hj hk y h =
    by-lt a i
    (λ l. omega (arith, years-steep a i (omega arith), months-steep w 0 j (omega arith) (omega arith)))
    (λ l. let e : a ≡ i = omega arith in rw (y e, e) (omega (arith, months-steep w b j (omega arith) (omega arith))))

onward : (d e x z : ℕ) → d ≡ 20000101 + x → e ≡ 20000101 + z → d ≤ e → x ≤ z
onward d e x z f g h = omega arith

gained : (d e x z m n : ℕ) → d ≡ 20000101 + x → e ≡ 20000101 + z → d ≤ e → n + x ≤ m + z → n - m ≤ e - d
gained d e x z m n f g h k = omega arith

month-end : (d : ℕ) → Parts d → day_of d - 1 ≤ 30
month-end d p = omega (arith, p.high, month-31 (year_of d) (month_of d) p.first p.last)

last : (d : ℕ) → Parts d → month_of d - 1 ≤ 11
last d p = omega (arith, p.last)

same-year : (d e : ℕ) → Parts d → Parts e → year_of d - 2000 ≡ year_of e - 2000 → year_of d ≡ year_of e
same-year d e p q z = omega (arith, p.from, q.from)

pub no-faster : (d e : ℕ) → real_day d ≡ true → real_day e ≡ true → d ≤ e → day_number e - day_number d ≤ e - d
unfolding day_number
no-faster d e r s h =
    let p = parts d r in
    let q = parts e s in
    let f = offset-is d p in
    let g = offset-is e q in
    gained d e (offset d) (offset e) (day_number d) (day_number e) f g h
    (spread (year_of d) (year_of e) (year_of d - 2000) (month_of d - 1) (day_of d - 1) (year_of e - 2000) (month_of e - 1) (day_of e - 1)
    (last d p) (month-end d p) (last e q) (month-end e q) (λ z. same-year d e p q z) (onward d e (offset d) (offset e) f g h))

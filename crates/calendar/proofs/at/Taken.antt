-- A date that ends the line: its day, month and year stand at their places. Assumes nothing.
use mathlib.Core.Path.{◌≡◌, sym, ap, ◌∙◌}
use mathlib.Core.Bool.{true}
use mathlib.Core.List.{List}
use Prim.Native.Nat.{ℕ, ◌+◌, ◌*◌, ◌/◌, ◌%◌, ◌≤◌, ◌<◌}
use native.Mathlib.Omega.{arith}
use mir.Val.{Fits}
use mir.Syntax.{w64}
use lib.ListN.{length, get_or, take, drop, length-drop}
use lib.Seq.{take_all}
use Rattle.paper.specs.Read.{value}
use Rattle.paper.specs.Numerals.{digits}
use Rattle.paper.specs.Days.{real_day, real, short_day, long_day}
use Rattle.paper.specs.ItemLine.{is_value}
use Rattle.numeral.proofs.Sound.{same, digits-plain, digits-least, digits-most, digits-sound}
use Rattle.numeral.proofs.given.Given.{given-value}
use Rattle.numeral.specs.placed.Placed.{Placed}
use Rattle.numeral.proofs.placed.Placed.{placed-part, placed-front, placed-join, one-low}
use Rattle.numeral.proofs.placed.Parts.{some-value}
use Rattle.numeral.proofs.placed.Last.{kept}

-- n digits end the line
module _ (n : ℕ) (s : List ℕ) (at v : ℕ) (h : digits n n (drop at s) ≡ value v) where
  pub tail-long : at ≤ length s → length s ≡ at + n
  tail-long l = omega (arith, digits-least n n (drop at s) v h, digits-most n n (drop at s) v h, length-drop at s)

  whole : take n (drop at s) ≡ drop at s
  whole = take_all n (drop at s) (digits-most n n (drop at s) v h)

  pub tail-digits : digits n n (take n (drop at s)) ≡ value v
  tail-digits = rw whole h

  pub tail-placed : 0 < n → Placed n s at
  tail-placed p =
      record { inside = omega (arith, digits-least n n (drop at s) v h, length-drop at s); plain = rw whole (digits-plain n n (drop at s) v h) }

-- a real day is left as it is
real_same : (d v : ℕ) → real d ≡ value v → v ≡ d
unfolding real
real_same d v h = kept (real_day d) 11 d v h

-- ---- DDMMRR

abbrev pub day_of : ℕ → ℕ
day_of n = (2000 + n % 100) * 10000 + n / 100 % 100 * 100 + n / 10000

of_three : (d m y : ℕ) → m < 100 → y < 100 → day_of ((d * 100 + m) * 100 + y) ≡ (2000 + y) * 10000 + m * 100 + d
of_three d m y h k =
    let a : ((d * 100 + m) * 100 + y) % 100 ≡ y = omega arith in
    let q : ((d * 100 + m) * 100 + y) / 100 ≡ d * 100 + m = omega arith in
    let r : (d * 100 + m) % 100 ≡ m = omega arith in
    let b : ((d * 100 + m) * 100 + y) / 100 % 100 ≡ m = rw q r in
    let c : ((d * 100 + m) * 100 + y) / 10000 ≡ d = omega arith in
    rw (a, b, c)

module _ (s : List ℕ) (at : ℕ) (h : is_value (short_day (drop at s)) ≡ true) where
  short-some : (d : ℕ) × (short_day (drop at s) ≡ value d)
  short-some = some-value (short_day (drop at s)) h

  short-digits : (n : ℕ) × (digits 6 6 (drop at s) ≡ value n) × (real (day_of n) ≡ value short-some.0)
  unfolding short_day
  short-digits = given-value (λ n. real (day_of n)) (digits 6 6 (drop at s)) short-some.0 short-some.1

  six-placed : Placed 6 s at
  six-placed = tail-placed 6 s at short-digits.0 short-digits.1 (omega arith)

  pub day-placed : Placed 2 s at
  day-placed = placed-front 2 6 s at (omega arith) six-placed

  pub month-placed : Placed 2 s (at + 2)
  month-placed = placed-part 2 2 6 s at (omega arith) six-placed

  pub year-placed : Placed 2 s (at + 4)
  year-placed = placed-part 2 4 6 s at (omega arith) six-placed

  pub month-room : length s < 18446744073709551616 → Fits w64 (at + 2)
  month-room l = omega (arith, six-placed.inside)

  pub year-room : length s < 18446744073709551616 → Fits w64 (at + 4)
  year-room l = omega (arith, six-placed.inside)

  pub short-is : (d m y : ℕ) → digits 2 2 (take 2 (drop at s)) ≡ value d → digits 2 2 (take 2 (drop (at + 2) s)) ≡ value m → digits 2 2 (take 2 (drop (at + 4) s)) ≡ value y
      → value ((2000 + y) * 10000 + m * 100 + d) ≡ short_day (drop at s)
  short-is d m y f g k =
      let all = placed-join 4 2 s at (d * 100 + m) y (placed-join 2 2 s at d m f g) k in
      let n : short-digits.0 ≡ (d * 100 + m) * 100 + y = same _ _ (sym (tail-digits 6 s at short-digits.0 short-digits.1) ∙ all) in
      let e = of_three d m y (digits-sound 2 2 _ m g) (digits-sound 2 2 _ y k) in
      ap (λ (x : ℕ). value x) (sym e ∙ (sym (ap day_of n) ∙ sym (real_same (day_of short-digits.0) short-some.0 short-digits.2))) ∙ sym short-some.1

module _ (u : List ℕ) (y : ℕ) (k : digits 2 2 u ≡ value y) where
  pub year-fits : Fits w64 (2000 + y)
  year-fits = omega (arith, digits-sound 2 2 u y k)

  pub years-fit : Fits w64 ((2000 + y) * 10000)
  years-fit = omega (arith, digits-sound 2 2 u y k)

  pub month-fits : Fits w64 (y * 100)
  month-fits = omega (arith, digits-sound 2 2 u y k)

  module _ (t : List ℕ) (m : ℕ) (g : digits 2 2 t ≡ value m) where
    pub months-fit : Fits w64 ((2000 + y) * 10000 + m * 100)
    months-fit = omega (arith, digits-sound 2 2 u y k, digits-sound 2 2 t m g)

    pub date-fits : (r : List ℕ) (d : ℕ) → digits 2 2 r ≡ value d → Fits w64 ((2000 + y) * 10000 + m * 100 + d)
    date-fits r d f = omega (arith, digits-sound 2 2 u y k, digits-sound 2 2 t m g, digits-sound 2 2 r d f)

pub ruleset shorts = (day-placed, month-placed, year-placed, month-room, year-room, short-is, year-fits, years-fit, month-fits, months-fit, date-fits)

-- ---- RRRRMMDD

module _ (s : List ℕ) (at : ℕ) (h : is_value (long_day (drop at s)) ≡ true) where
  long-some : (d : ℕ) × (long_day (drop at s) ≡ value d)
  long-some = some-value (long_day (drop at s)) h

  long-digits : (n : ℕ) × (digits 8 8 (drop at s) ≡ value n) × (real n ≡ value long-some.0)
  unfolding long_day
  long-digits = given-value real (digits 8 8 (drop at s)) long-some.0 long-some.1

  eight-placed : Placed 8 s at
  eight-placed = tail-placed 8 s at long-digits.0 long-digits.1 (omega arith)

  pub eight-first : Placed 4 s at
  eight-first = placed-front 4 8 s at (omega arith) eight-placed

  pub eight-second : Placed 4 s (at + 4)
  eight-second = placed-part 4 4 8 s at (omega arith) eight-placed

  pub eight-room : length s < 18446744073709551616 → Fits w64 (at + 4)
  eight-room l = omega (arith, eight-placed.inside)

  pub long-is : (a b : ℕ) → digits 4 4 (take 4 (drop at s)) ≡ value a → digits 4 4 (take 4 (drop (at + 4) s)) ≡ value b → value (a * 10000 + b) ≡ long_day (drop at s)
  long-is a b f g =
      let n : long-digits.0 ≡ a * 10000 + b = same _ _ (sym (tail-digits 8 s at long-digits.0 long-digits.1) ∙ placed-join 4 4 s at a b f g) in
      ap (λ (x : ℕ). value x) (sym n ∙ sym (real_same long-digits.0 long-some.0 long-digits.2)) ∙ sym long-some.1

module _ (u : List ℕ) (a : ℕ) (f : digits 4 4 u ≡ value a) where
  pub eight-high : Fits w64 (a * 10000)
  eight-high = omega (arith, digits-sound 4 4 u a f)

  pub eight_fits : (t : List ℕ) (b : ℕ) → digits 4 4 t ≡ value b → Fits w64 (a * 10000 + b)
  eight_fits t b g = omega (arith, digits-sound 4 4 u a f, digits-sound 4 4 t b g)

pub ruleset longs = (eight-first, eight-second, eight-room, long-is, eight-high, eight_fits)

-- ---- how long they are

module _ (s : List ℕ) (at d : ℕ) where
  pub short-long : at ≤ length s → short_day (drop at s) ≡ value d → length s ≡ at + 6
  unfolding short_day
  short-long l h = let x = given-value (λ n. real (day_of n)) (digits 6 6 (drop at s)) d h in tail-long 6 s at x.0 x.1 l

  module _ (h : long_day (drop at s) ≡ value d) where
    eight : (n : ℕ) × (digits 8 8 (drop at s) ≡ value n) × (real n ≡ value d)
    unfolding long_day
    eight = given-value real (digits 8 8 (drop at s)) d h

    pub long-long : at ≤ length s → length s ≡ at + 8
    long-long l = tail-long 8 s at eight.0 eight.1 l

    pub long-placed : 48 ≤ get_or s (at + 1) 0
    long-placed = one-low s (at + 1) (placed-part 1 1 8 s at (omega arith) (tail-placed 8 s at eight.0 eight.1 (omega arith)))

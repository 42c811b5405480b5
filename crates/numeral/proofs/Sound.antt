-- What a field that is read as a number has: as many bytes as allowed, digits alone, and so a number with no more digits. A field that is
-- not is refused with 4. Assumes nothing.
use Rattle.std.proofs.Common.{◌≡◌, ℕ, suc, ◌+◌, ◌-◌, ◌*◌, ◌^◌, ◌<◌, ◌≤◌, true, List, [], ◌∷◌, length, sym, refl, ◌∙◌, mul-le-mul_right, mul_assoc, arith, le-ltb, lt-ltb}
use native.Mathlib.Nat.{pow-succ'}
use Rattle.base.specs.Pick.{pick}
use Rattle.base.specs.Seek.{all}
use Rattle.base.proofs.Cases.{by-test, by-lt}
use Rattle.base.proofs.Seek.{all_head, all_tail, all_cons}
use Rattle.paper.specs.Read.{value, fault}
use Rattle.paper.specs.Bytes.{is_digit}
use Rattle.paper.specs.Numerals.{digits_on, digits}
use Rattle.numeral.proofs.Digits.{in-range, ten-le}
use Rattle.numeral.proofs.Plain.{digit-range}

-- a value is no refusal
apart : {P : Type 0} (v n : ℕ) → fault n ≡ value v → P
apart v n e = absurd (let z : ◌≡◌ {A = ℕ} 0 1 = cc in omega arith)

pub same : (u v : ℕ) → value u ≡ value v → u ≡ v
same u v e = cc

-- one byte of a field that is read, and the rest
module _ (u x : ℕ) (s : List ℕ) (v : ℕ) (h : digits_on u (x ∷ s) ≡ value v) where
  pub on-head : is_digit x ≡ true
  unfolding digits_on pick
  on-head = by-test (is_digit x) (λ e. e) (λ e. apart v 4 (simp e at h))

  pub on-tail : digits_on (u * 10 + (x - 48)) s ≡ value v
  unfolding digits_on pick
  on-tail = simp on-head at h

on-plain : (u : ℕ) (s : List ℕ) (v : ℕ) → digits_on u s ≡ value v → all is_digit s ≡ true
unfolding all
on-plain u [] v h = refl
on-plain u (x ∷ s) v h = all_cons is_digit x s (on-head u x s v h) (on-plain (u * 10 + (x - 48)) s v (on-tail u x s v h))

-- ten times as much room with each digit
more : (u d k : ℕ) → d ≤ 9 → (u * 10 + d + 1) * 10 ^ k ≤ (u + 1) * 10 ^ suc k
more u d k h =
    let e : u * 10 + d + 1 ≤ (u + 1) * 10 = omega arith in
    rw (pow-succ', ← mul_assoc) (mul-le-mul_right (10 ^ k) e)

on_below : (u : ℕ) (s : List ℕ) (v : ℕ) → digits_on u s ≡ value v → v < (u + 1) * 10 ^ length s
unfolding digits_on
on_below u [] v h = omega (arith, same u v h)
on_below u (x ∷ s) v h =
    let d : x - 48 ≤ 9 = omega (arith, (digit-range x (on-head u x s v h)).1) in
    omega (arith, on_below (u * 10 + (x - 48)) s v (on-tail u x s v h), more u (x - 48) (length s) d)

on-fault : (u : ℕ) (s : List ℕ) (n : ℕ) → digits_on u s ≡ fault n → n ≡ 4
unfolding digits_on pick
on-fault u [] n h = apart u n (sym h)
on-fault u (x ∷ s) n h = by-test (is_digit x) (λ e. on-fault (u * 10 + (x - 48)) s n (simp e at h)) (λ e. let f : fault 4 ≡ fault n = simp e at h in cc)

-- A field that is read.
module _ (least most : ℕ) (s : List ℕ) (v : ℕ) (h : digits least most s ≡ value v) where
  pub digits-least : least ≤ length s
  unfolding digits pick
  digits-least = by-lt (length s) least (λ lt. apart v 4 (simp (lt-ltb _ _ lt) at h)) (λ le. le)

  pub digits-most : length s ≤ most
  unfolding digits pick
  digits-most = by-lt most (length s) (λ lt. apart v 4 (simp (le-ltb _ _ digits-least, lt-ltb _ _ lt) at h)) (λ le. le)

  pub read-on : digits_on 0 s ≡ value v
  unfolding digits pick
  read-on = simp (le-ltb _ _ digits-least, le-ltb _ _ digits-most) at h

  pub digits-plain : all is_digit s ≡ true
  digits-plain = on-plain 0 s v read-on

  -- a number of as many digits as the field has bytes
  pub digits-below : v < 10 ^ length s
  digits-below = omega (arith, on_below 0 s v read-on)

  pub digits-sound : v < 10 ^ most
  digits-sound = omega (arith, digits-below, ten-le (length s) most digits-most)

-- a field that is refused
pub digits-fault : (least most : ℕ) (s : List ℕ) (n : ℕ) → digits least most s ≡ fault n → n ≡ 4
unfolding digits pick
digits-fault least most s n h =
    by-lt (length s) least
    (λ lt. let f : fault 4 ≡ fault n = simp (lt-ltb _ _ lt) at h in cc)
    (λ le. by-lt most (length s)
    (λ lt. let f : fault 4 ≡ fault n = simp (le-ltb _ _ le, lt-ltb _ _ lt) at h in cc)
    (λ ge. on-fault 0 s n (simp (le-ltb _ _ le, le-ltb _ _ ge) at h)))

on-reads : (u : ℕ) (s : List ℕ) → all is_digit s ≡ true → (v : ℕ) × (digits_on u s ≡ value v)
unfolding digits_on pick
on-reads u [] h = (u, refl)
on-reads u (x ∷ s) h = simp (all_head is_digit x s h) (on-reads (u * 10 + (x - 48)) s (all_tail is_digit x s h))

-- digits alone, as many as allowed, are read
pub digits-reads : (least most : ℕ) (s : List ℕ) → all is_digit s ≡ true → least ≤ length s → length s ≤ most → (v : ℕ) × (digits least most s ≡ value v)
digits-reads least most s h lo hi = let r = on-reads 0 s h in (r.0, in-range least most s lo hi ∙ r.1)

-- The loop of `digit_run`: one more byte of the run, and where it stops; and how a field ends. Assumes nothing.
use Rattle.std.proofs.Common.{◌≡◌, ℕ, suc, ◌+◌, ◌-◌, ◌*◌, ◌^◌, ◌<◌, ◌≤◌, true, false, eqb, ltb, List, [], ◌∷◌, length, get_or, take, drop, sym, refl, ◌∙◌, add-one, arith, length-drop, drop_of_length-le, take_all, drop-cons, w64, Fits, le-ltb, lt-ltb, le-leb}
use borrow.Author.Tests.{lt-leb}
use Rattle.base.specs.Pick.{pick}
use Rattle.base.specs.Seek.{starts, seek}
use Rattle.base.proofs.Cases.{by-lt, by-test}
use Rattle.paper.specs.Read.{value}
use Rattle.paper.specs.Bytes.{is_digit, field_of, null}
use Rattle.paper.specs.Numerals.{digits_on, digits}
use Rattle.numeral.proofs.Digits.{in-range, more-digits, ten-le}
use Rattle.numeral.proofs.Plain.{range-digit}
use Rattle.numeral.specs.field.Digits.{front, run, Worth}
use Rattle.numeral.proofs.field.Front.{run-most}

-- ---- a byte that is a digit, and one that is none

pub is-digit : (b d : ℕ) → Worth b d → d ≤ 9 → is_digit b ≡ true
is-digit b d w h = let g = w.digit h in range-digit b g.0 g.1

pub no_digit : (b : ℕ) → (48 ≤ b → 57 < b) → is_digit b ≡ false
unfolding is_digit pick
no_digit b h = by-lt b 48 (λ l. simp (lt-ltb b 48 l)) (λ l. simp (le-ltb b 48 l, lt-leb b 57 (h l)))

-- ---- where it stops at the latest

module _ (n at most r : ℕ) (h : r ≡ pick (ltb (n - at) most) n (at + most)) (l : at ≤ n) where
  pub stop-from : at ≤ r
  unfolding pick
  stop-from = by-lt (n - at) most (λ t. omega (arith, rw (lt-ltb _ _ t) at h)) (λ t. omega (arith, rw (le-ltb _ _ t) at h))

  pub stop-within : r ≤ n
  unfolding pick
  stop-within = by-lt (n - at) most (λ t. omega (arith, rw (lt-ltb _ _ t) at h)) (λ t. omega (arith, rw (le-ltb _ _ t) at h))

  pub stop-inside : (i : ℕ) → i < r → i < n
  stop-inside i k = omega (arith, stop-within)

  pub stop-most : r ≤ at + most
  unfolding pick
  stop-most = by-lt (n - at) most (λ t. omega (arith, rw (lt-ltb _ _ t) at h)) (λ t. omega (arith, rw (le-ltb _ _ t) at h))

  stop-whole : (s : List ℕ) → n ≡ length s → take most (drop at s) ≡ take (r - at) (drop at s)
  unfolding pick
  stop-whole s e =
      by-lt (n - at) most
      (λ t. let q : r ≡ n = rw (lt-ltb _ _ t) at h in take_all most (drop at s) (omega (arith, length-drop at s)) ∙ sym (take_all (r - at) (drop at s) (omega (arith, length-drop at s))))
      (λ t. let q : r ≡ at + most = rw (le-ltb _ _ t) at h in let z : r - at ≡ most = omega arith in rw z)

-- ---- the loop, with the number v of what was read before i

-- what is left to read
abbrev pub ahead : List ℕ → ℕ → ℕ → List ℕ
ahead s stop i = front (take (stop - i) (drop i s))

pub record Reads (s : List ℕ) (at most stop v i : ℕ) : Type 0 where
  pub from : at ≤ i
  pub to : i ≤ stop
  pub small : v < 10 ^ (i - at)
  pub long : at + length (run most (drop at s)) ≡ i + length (ahead s stop i)
  pub says : digits_on 0 (run most (drop at s)) ≡ digits_on v (ahead s stop i)

pub reads-start : (s : List ℕ) (at most stop : ℕ) → stop ≡ pick (ltb (length s - at) most) (length s) (at + most) → at ≤ length s → Reads s at most stop 0 at
reads-start s at most stop h l =
    let w = stop-whole (length s) at most stop h l s refl in
    let z : at - at ≡ 0 = omega arith in
    record { from = omega arith; to = stop-from (length s) at most stop h l; small = rw z (omega arith); long = rw w; says = rw w }

module _ (s : List ℕ) (at most stop v i : ℕ) (inv : Reads s at most stop v i) where
  -- what a run that stops at i says
  module _ (h : ahead s stop i ≡ []) where
    pub reads-long : i ≡ at + length (run most (drop at s))
    reads-long = let e = inv.long in let z : length (ahead s stop i) ≡ 0 = rw h in omega arith

    pub reads-value : digits 0 most (run most (drop at s)) ≡ value v
    unfolding digits_on
    reads-value = in-range 0 most (run most (drop at s)) (omega arith) (run-most most (drop at s)) ∙ inv.says ∙ rw h

  pub ahead-end : stop ≤ i → ahead s stop i ≡ []
  unfolding front
  ahead-end l = let z : stop - i ≡ 0 = omega arith in rw z (nothing (drop i s))
    where
      nothing : (t : List ℕ) → front (take 0 t) ≡ []
      nothing [] = refl
      nothing (x ∷ t) = refl

  pub reads-stop : stop ≤ i → stop ≡ at + length (run most (drop at s))
  reads-stop l = let t = inv.to in let e : stop ≡ i = omega arith in e ∙ reads-long (ahead-end l)

  module _ (l : i < stop) (w : stop ≤ length s) where
    step : ahead s stop i ≡ pick (is_digit (get_or s i 0)) (get_or s i 0 ∷ ahead s stop (i + 1)) []
    unfolding front
    step =
        let k : i < length s = omega arith in
        let z : stop - i ≡ suc (stop - (i + 1)) = omega arith in
        rw (z, add-one, drop-cons s i 0 k)

    pub ahead-other : (x : ℕ) → Worth (get_or s i 0) x → 9 < x → ahead s stop i ≡ []
    unfolding pick
    ahead-other x k h = step ∙ rw (k.other h)

    next : 48 ≤ get_or s i 0 → get_or s i 0 ≤ 57 → Reads s at most stop (v * 10 + (get_or s i 0 - 48)) (i + 1)
    unfolding is_digit digits_on pick
    next lo hi =
        let d : is_digit (get_or s i 0) ≡ true = simp (le-ltb (get_or s i 0) 48 lo, le-leb (get_or s i 0) 57 hi) in
        let a : ahead s stop i ≡ get_or s i 0 ∷ ahead s stop (i + 1) = step ∙ rw d in
        let f = inv.from in
        let z : i + 1 - at ≡ i - at + 1 = omega arith in
        let y : length (ahead s stop i) ≡ suc (length (ahead s stop (i + 1))) = rw a in
        record {
          from = omega arith;
          to = omega arith;
          small = rw z (more-digits v (get_or s i 0) (i - at) inv.small hi);
          long = inv.long ∙ omega arith;
          says = inv.says ∙ rw (a, d);
        }

    pub reads-next : (x : ℕ) → Worth (get_or s i 0) x → x ≤ 9 → Reads s at most stop (v * 10 + x) (i + 1)
    reads-next x k h = let w = k.digit h in rw w.2 (next w.0 w.1)

    -- while 19 digits are not exceeded the number fits a word
    module _ (m : stop ≤ at + most) (c : most ≤ 19) where
      short : v * 10 + 9 < 10 ^ 19
      short =
          let f = inv.from in
          omega (arith, more-digits v 57 (i - at) inv.small (omega arith), ten-le (i - at + 1) 19 (omega arith))

      pub fits-times : Fits w64 (v * 10)
      fits-times = omega (arith, short)

      pub fits_more : (x : ℕ) → x ≤ 9 → Fits w64 (v * 10 + x)
      fits_more x k = omega (arith, short)

pub ruleset turns = (stop-from, stop-within, stop-inside, stop-most, reads-start, reads-long, reads-stop, reads-value, ahead-end, ahead-other, reads-next, fits-times, fits_more)

-- ---- `ends`

pub ends-here : (s : List ℕ) (at : ℕ) → length s ≤ at → true ≡ null (field_of (drop at s))
unfolding null seek
ends-here s at h = rw (drop_of_length-le s h)

pub ends-byte : (s : List ℕ) (at : ℕ) → at < length s → eqb (get_or s at 0) 32 ≡ null (field_of (drop at s))
unfolding null seek starts pick
ends-byte s at h = rw (drop-cons s at 0 h) (by-test (eqb (get_or s at 0) 32) (λ e. simp e) (λ e. simp e))

pub ruleset stops = (ends-here, ends-byte)

-- The loop of `take_run`: one more digit, and where they stop. Assumes nothing.
use Rattle.std.proofs.Common.{◌≡◌, ℕ, suc, ◌+◌, ◌-◌, ◌*◌, ◌^◌, ◌<◌, ◌≤◌, true, List, [], ◌∷◌, length, get_or, drop, refl, ◌∙◌, add-one, arith, drop-cons, w64, Fits, lt-ltb}
use Rattle.base.specs.Pick.{pick}
use Rattle.base.proofs.Cases.{by-test}
use Rattle.paper.specs.Bytes.{is_digit}
use Rattle.paper.specs.Numerals.{digits_on}
use Rattle.numeral.proofs.Digits.{more-digits, ten-le}
use Rattle.numeral.proofs.Plain.{digit-range}
use Rattle.numeral.specs.field.Digits.{front}
use Rattle.numeral.specs.placed.Known.{Stops, Ran}

-- v is the number of the digits before i
pub record Takes (s : List ℕ) (at v i : ℕ) : Type 0 where
  pub from : at ≤ i
  pub small : v < 10 ^ (i - at)
  pub long : at + length (front (drop at s)) ≡ i + length (front (drop i s))
  pub says : digits_on 0 (front (drop at s)) ≡ digits_on v (front (drop i s))

pub takes-start : (s : List ℕ) (at : ℕ) → Takes s at 0 at
takes-start s at = let z : at - at ≡ 0 = omega arith in record { from = omega arith; small = rw z (omega arith); long = refl; says = refl }

module _ (s : List ℕ) (at v i : ℕ) (inv : Takes s at v i) (h : Stops s at) where
  pub takes-inside : i < length s
  takes-inside = omega (arith, h.inside, inv.long)

  step : front (drop i s) ≡ pick (is_digit (get_or s i 0)) (get_or s i 0 ∷ front (drop (i + 1) s)) []
  unfolding front
  step = rw (add-one, drop-cons s i 0 takes-inside)

  pub takes-end : get_or s i 0 < 48 → Ran s at (record { value = v; end = i })
  unfolding is_digit digits_on pick
  takes-end l =
      let n : front (drop i s) ≡ [] = step ∙ simp (lt-ltb (get_or s i 0) 48 l) in
      let z : length (front (drop i s)) ≡ 0 = rw n in
      record { end = omega (arith, inv.long); number = inv.says ∙ rw n }

  -- a byte that is not below the digits is one, for the byte behind them is
  module _ (l : 48 ≤ get_or s i 0) where
    digit : is_digit (get_or s i 0) ≡ true
    unfolding pick
    digit =
        by-test (is_digit (get_or s i 0)) (λ e. e)
        (λ e.
        let n : front (drop i s) ≡ [] = step ∙ simp e in
        let z : length (front (drop i s)) ≡ 0 = rw n in
        let w : at + length (front (drop at s)) ≡ i = omega (arith, inv.long) in
        absurd (omega (arith, rw w at h.low)))

    more : front (drop i s) ≡ get_or s i 0 ∷ front (drop (i + 1) s)
    unfolding pick
    more = step ∙ rw digit

    top : get_or s i 0 ≤ 57
    top = omega (arith, (digit-range (get_or s i 0) digit).1)

    pub takes-next : Takes s at (v * 10 + (get_or s i 0 - 48)) (i + 1)
    unfolding digits_on pick
    takes-next =
        let f = inv.from in
        let z : i + 1 - at ≡ i - at + 1 = omega arith in
        let y : length (front (drop i s)) ≡ suc (length (front (drop (i + 1) s))) = rw more in
        record {
          from = omega arith;
          small = rw z (more-digits v (get_or s i 0) (i - at) inv.small top);
          long = inv.long ∙ omega arith;
          says = inv.says ∙ rw (more, digit);
        }

    -- while 19 digits are not exceeded the number fits a word
    short : v * 10 + 9 < 10 ^ 19
    short =
        let f = inv.from in
        let y : length (front (drop i s)) ≡ suc (length (front (drop (i + 1) s))) = rw more in
        omega (arith, more-digits v 57 (i - at) inv.small (omega arith), ten-le (i - at + 1) 19 (omega (arith, h.few, inv.long)))

    pub takes-byte : Fits w64 (get_or s i 0)
    takes-byte = omega (arith, top)

    pub takes-times : Fits w64 (v * 10)
    takes-times = omega (arith, short)

    pub takes-fits : Fits w64 (v * 10 + (get_or s i 0 - 48))
    takes-fits = omega (arith, short, top)

pub ruleset turns = (takes-start, takes-inside, takes-end, takes-next, takes-byte, takes-times, takes-fits)

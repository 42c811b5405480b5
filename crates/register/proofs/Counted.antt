-- Marked numbers counted in parts, as the ones of a word, and none of them above 999. Assumes nothing.
use mathlib.Core.Path.{◌≡◌, refl, sym, ap, ap₂, ◌∙◌}
use mathlib.Core.Bool.{Bool, true, false}
use mathlib.Core.List.{List}
use Prim.Native.Nat.{ℕ, zero, suc, ◌+◌, ◌*◌, ◌/◌, ◌%◌, ◌^◌, ◌<◌}
use native.Mathlib.Nat.{add-zero, add-suc, pow-suc}
use native.Mathlib.Omega.{arith}
use lib.Dec.{eqb}
use lib.ListN.{get_or}
use lib.Count.{ones_in}
use lib.Pow.{shr-shr, shr_lt}
use borrow.Author.Tests.{eq-eqb, ne_eqb, eqb-true}
use Rattle.base.specs.Pick.{pick}
use Rattle.base.proofs.Cases.{by-eq}
use Rattle.fileline.specs.seen.Bits.{bit}
use Rattle.register.specs.Marks.{Marks, taken}
use Rattle.register.specs.Register.{none_above}
use Rattle.register.proofs.Digits.{on, at-half, low_digit, bit_in}

-- ---- a count in parts

pub taken_more : (p : Marks) (m k : ℕ) → taken p (m + k) ≡ taken p m + taken (λ j. p (m + j)) k
unfolding taken
taken_more p m zero = rw (add-zero m) (omega arith)
taken_more p m (suc k) = rw (add-suc m k, taken_more p m k) (omega arith)

taken-front : (p : Marks) (k : ℕ) → taken p (suc k) ≡ pick (p 0) 1 0 + taken (λ j. p (suc j)) k
unfolding taken
taken-front p zero = omega arith
taken-front p (suc k) = omega (arith, taken-front p k)

pub taken-same : (p q : Marks) (k : ℕ) → ((j : ℕ) → j < k → p j ≡ q j) → taken p k ≡ taken q k
unfolding taken
taken-same p q zero e = refl
taken-same p q (suc k) e = ap₂ (λ (x : ℕ) (t : Bool). x + pick t 1 0) (taken-same p q k (λ j l. e j (omega arith))) (e k (omega arith))

-- ---- none is marked

pub taken_none : (p : Marks) (m : ℕ) → ((j : ℕ) → j < m → p j ≡ false) → taken p m ≡ 0
unfolding taken pick
taken_none p zero free = refl
taken_none p (suc m) free = rw (free m (omega arith)) (omega (arith, taken_none p m (λ j l. free j (omega arith))))

unmarked : (t : Bool) → ◌≡◌ {A = ℕ} (pick t 1 0) 0 → t ≡ false
unfolding pick
unmarked true e = absurd (omega arith)
unmarked false e = refl

none-taken : (p : Marks) (m : ℕ) → taken p m ≡ 0 → (j : ℕ) → j < m → p j ≡ false
unfolding taken
none-taken p zero e j l = absurd (omega arith)
none-taken p (suc m) e j l =
    by-eq j m
    (λ s. ap p s ∙ unmarked (p m) (omega arith))
    (λ d. none-taken p m (omega arith) j (omega arith))

-- where none of 1,000 to 1,023 is marked, each of them is free
pub above-free : (p : Marks) → none_above p ≡ true → (j : ℕ) → j < 24 → p (1000 + j) ≡ false
unfolding none_above
above-free p e = none-taken (λ j. p (1000 + j)) 24 (eqb-true (taken (λ j. p (1000 + j)) 24) 0 e)

-- .. and the numbers below 1,000 are all that are counted
pub above-taken : (p : Marks) → none_above p ≡ true → taken p 1024 ≡ taken p 1000
unfolding none_above
above-taken p e = omega (arith, taken_more p 1000 24, eqb-true (taken (λ j. p (1000 + j)) 24) 0 e)

-- ---- the digits of a word

pub digits-taken : (d n : ℕ) → ones_in d n ≡ taken (on n) d
unfolding ones_in taken
digits-taken zero n = refl
digits-taken (suc d) n =
    let rest : taken (λ j. on n (suc j)) d ≡ ones_in d (n / 2) =
    taken-same (λ j. on n (suc j)) (on (n / 2)) d (λ j l. ap (λ (x : ℕ). eqb x 1) (at-half n j)) ∙ sym (digits-taken d (n / 2)) in
    sym (taken-front (on n) d ∙ ap₂ (λ (x y : ℕ). x + y) (low_digit n) rest)

digits-none : (d n : ℕ) → n < 2 ^ d → ones_in d n ≡ 0 → n ≡ 0
unfolding ones_in
digits-none zero n l e = omega arith
digits-none (suc d) n l e =
    let two : 2 ^ suc d ≡ 2 ^ d * 2 = pow-suc 2 d in
    let rest : n / 2 ≡ 0 = digits-none d (n / 2) (omega arith) (omega arith) in
    omega arith

digits-zero : (d : ℕ) → ones_in d 0 ≡ 0
unfolding ones_in
digits-zero zero = refl
digits-zero (suc d) = omega (arith, digits-zero d)

-- two tests for 0 that are one
zeros : (a b : ℕ) → (a ≡ 0 → b ≡ 0) → (b ≡ 0 → a ≡ 0) → eqb a 0 ≡ eqb b 0
zeros a b f g = by-eq a 0 (λ e. eq-eqb a 0 e ∙ sym (eq-eqb b 0 (f e))) (λ n. ne_eqb a 0 n ∙ sym (ne_eqb b 0 (λ e. n (g e))))

-- the numbers from 1,000 on are the last word's bits from 40 on
module _ (ws : List ℕ) (small : get_or ws 15 0 < 2 ^ 64) where
  high_bits : taken (λ j. bit ws (1000 + j)) 24 ≡ ones_in 24 (get_or ws 15 0 / 2 ^ 40)
  high_bits =
      taken-same (λ j. bit ws (1000 + j)) (on (get_or ws 15 0 / 2 ^ 40)) 24
      (λ j l. let e : 1000 + j ≡ 64 * 15 + (40 + j) = omega arith in
      ap (bit ws) e ∙ bit_in ws 15 (40 + j) (omega arith) ∙ ap (λ (x : ℕ). eqb (x % 2) 1) (sym (shr-shr (get_or ws 15 0) 40 j)))
      ∙ sym (digits-taken 24 (get_or ws 15 0 / 2 ^ 40))

  pub high-none : eqb (get_or ws 15 0 / 2 ^ 40) 0 ≡ none_above (bit ws)
  unfolding none_above
  high-none =
      zeros (get_or ws 15 0 / 2 ^ 40) (taken (λ j. bit ws (1000 + j)) 24)
      (λ e. high_bits ∙ ap (ones_in 24) e ∙ digits-zero 24)
      (λ e. digits-none 24 (get_or ws 15 0 / 2 ^ 40) (shr_lt 24 40 small) (sym high_bits ∙ e))

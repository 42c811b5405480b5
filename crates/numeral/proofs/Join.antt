-- A number cut in two: its digits are those of the high part and, zeros in front, those of the low part. Assumes nothing.
use Rattle.std.proofs.Common.{◌≡◌, ℕ, zero, suc, ◌+◌, ◌-◌, ◌*◌, ◌/◌, ◌%◌, ◌^◌, ◌<◌, ◌≤◌, List, [], ◌∷◌, ◌++◌, sym, ap, ◌∙◌, mul_assoc, mul_comm, pow-suc, arith, lit<, le-ltb, lt-ltb}
use native.Mathlib.Nat.{one-le-pow, one-le-mul}
use Rattle.base.specs.Pick.{pick}
use Rattle.base.proofs.Cases.{by-lt}
use Rattle.paper.specs.Numerals.{dec_on, decimal, fixed_on, fixed}
use Rattle.numeral.proofs.Digits.{ten-le}
use Rattle.numeral.proofs.Fixed.{fixed-append}

-- the last digit of both, and what is left without it
module _ (b q r : ℕ) where
  more : q * 10 ^ suc b ≡ 10 * (q * 10 ^ b)
  more = rw (pow-suc, ← mul_assoc) (mul_comm (q * 10 ^ b) 10)

  pub cut-rest : (q * 10 ^ suc b + r) / 10 ≡ q * 10 ^ b + r / 10
  cut-rest = omega (arith, more)

  pub cut_digit : (q * 10 ^ suc b + r) % 10 ≡ r % 10
  cut_digit = omega (arith, more)

  cut-ten : 0 < q → 10 ≤ q * 10 ^ suc b + r
  cut-ten h = omega (arith, more, one-le-mul h (one-le-pow b 10 (lit< tt)))

fixed-on : (b a q r : ℕ) (s : List ℕ) → r < 10 ^ b → fixed_on (b + a) (q * 10 ^ b + r) s ≡ fixed_on a q (fixed_on b r s)
unfolding fixed_on
fixed-on zero a q r s h =
    let e : 0 + a ≡ a = omega arith in
    let f : q * 10 ^ 0 + r ≡ q = omega arith in
    ap (λ (n : ℕ). fixed_on n (q * 10 ^ 0 + r) s) e ∙ ap (λ (n : ℕ). fixed_on a n s) f
fixed-on (suc b) a q r s h =
    let e : suc b + a ≡ suc (b + a) = omega arith in
    ap (λ (n : ℕ). fixed_on n (q * 10 ^ suc b + r) s) e
    ∙ ap (λ (n : ℕ). fixed_on (b + a) n ((48 + (q * 10 ^ suc b + r) % 10) ∷ s)) (cut-rest b q r)
    ∙ ap (λ (n : ℕ). fixed_on (b + a) (q * 10 ^ b + r / 10) ((48 + n) ∷ s)) (cut_digit b q r)
    ∙ fixed-on b a q (r / 10) ((48 + r % 10) ∷ s) (omega (arith, pow-suc 10 b))

pub join-fixed : (a b q r : ℕ) → r < 10 ^ b → fixed (a + b) (q * 10 ^ b + r) ≡ fixed a q ++ fixed b r
unfolding fixed
join-fixed a b q r h =
    let e : a + b ≡ b + a = omega arith in
    ap (λ (n : ℕ). fixed_on n (q * 10 ^ b + r) []) e ∙ fixed-on b a q r [] h ∙ sym (fixed-append a q [] (fixed_on b r []))

-- k digits are those of the number below 10 ^ k
pub fixed-low : (k q r : ℕ) → r < 10 ^ k → fixed k (q * 10 ^ k + r) ≡ fixed k r
unfolding fixed fixed_on
fixed-low k q r h = let e : k ≡ 0 + k = omega arith in ap (λ (n : ℕ). fixed n (q * 10 ^ k + r)) e ∙ join-fixed 0 k q r h

dec-on : (b k q r : ℕ) (s : List ℕ) → 0 < q → r < 10 ^ b → dec_on (b + k) (q * 10 ^ b + r) s ≡ dec_on k q (fixed_on b r s)
unfolding dec_on fixed_on pick
dec-on zero k q r s p h =
    let e : 0 + k ≡ k = omega arith in
    let f : q * 10 ^ 0 + r ≡ q = omega arith in
    ap (λ (n : ℕ). dec_on n (q * 10 ^ 0 + r) s) e ∙ ap (λ (n : ℕ). dec_on k n s) f
dec-on (suc b) k q r s p h =
    let e : suc b + k ≡ suc (b + k) = omega arith in
    ap (λ (n : ℕ). dec_on n (q * 10 ^ suc b + r) s) e
    ∙ simp (le-ltb (q * 10 ^ suc b + r) 10 (cut-ten b q r p))
    (ap (λ (n : ℕ). dec_on (b + k) n ((48 + (q * 10 ^ suc b + r) % 10) ∷ s)) (cut-rest b q r)
    ∙ ap (λ (n : ℕ). dec_on (b + k) (q * 10 ^ b + r / 10) ((48 + n) ∷ s)) (cut_digit b q r)
    ∙ dec-on b k q (r / 10) ((48 + r % 10) ∷ s) p (omega (arith, pow-suc 10 b)))

-- any bound on the digits that is high enough
dec-any : (k j n : ℕ) (s t : List ℕ) → n < 10 ^ suc k → n < 10 ^ suc j → dec_on (suc k) n (s ++ t) ≡ dec_on (suc j) n s ++ t
unfolding dec_on pick
dec-any zero j n s t h g = simp (lt-ltb n 10 h)
dec-any (suc k) zero n s t h g = simp (lt-ltb n 10 g)
dec-any (suc k) (suc j) n s t h g =
    by-lt n 10
    (λ lt. simp (lt-ltb n 10 lt))
    (λ le. simp (le-ltb n 10 le) (dec-any k j (n / 10) ((48 + n % 10) ∷ s) t (omega (arith, pow-suc 10 (suc k))) (omega (arith, pow-suc 10 (suc j)))))

pub join-decimal : (b q r : ℕ) → b < 20 → 0 < q → q < 10 ^ (20 - b) → r < 10 ^ b → decimal (q * 10 ^ b + r) ≡ decimal q ++ fixed b r
unfolding decimal fixed
join-decimal b q r m p g h =
    let e : 20 ≡ b + (20 - b) = omega arith in
    let f : 20 - b ≡ suc (19 - b) = omega arith in
    ap (λ (n : ℕ). dec_on n (q * 10 ^ b + r) []) e
    ∙ dec-on b (20 - b) q r [] p h
    ∙ ap (λ (n : ℕ). dec_on n q (fixed_on b r [])) f
    ∙ dec-any (19 - b) 19 q [] (fixed_on b r []) (rw (← f) g) (omega (arith, ten-le (20 - b) 20 (omega arith)))

-- The sum by doubling: one digit more on its right, how large it is, of a number cut in two, and its rest by 11. Assumes nothing.
use mathlib.Core.Path.{◌≡◌, refl, sym, ap, ◌∙◌}
use Prim.Native.Nat.{ℕ, zero, suc, ◌+◌, ◌-◌, ◌*◌, ◌/◌, ◌%◌, ◌^◌, ◌≤◌, ◌<◌}
use native.Mathlib.Nat.{mul_assoc, pow-suc, pow-succ', add-mul-mod_self_left}
use native.Mathlib.Omega.{arith}
use Rattle.numeral.proofs.Join.{cut-rest, cut_digit}
use Rattle.paper.specs.Accounts.{rest}
use Rattle.account.specs.Doubled.{doubled}

-- no digits are left
pub doubled-none : (k : ℕ) → doubled k 0 ≡ 0
unfolding doubled
doubled-none zero = refl
doubled-none (suc k) = omega (arith, doubled-none k)

-- it is no larger than the number
pub doubled-le : (k n : ℕ) → doubled k n ≤ n
unfolding doubled
doubled-le zero n = omega arith
doubled-le (suc k) n = omega (arith, doubled-le k (n / 10))

-- the rest by 11, taken at the end or at each digit, is the same
again : (x d : ℕ) → (2 * (x % 11) + d) % 11 ≡ (2 * x + d) % 11
again x d =
    let e : 2 * x + d ≡ 2 * (x % 11) + d + 11 * (2 * (x / 11)) = omega arith in
    sym (rw e (add-mul-mod_self_left (2 * (x % 11) + d) 11 (2 * (x / 11))))

pub rest-is : (k n : ℕ) → rest k n ≡ doubled k n % 11
unfolding rest doubled
rest-is zero n = refl
rest-is (suc k) n = rw (rest-is k (n / 10)) (again (doubled k (n / 10)) (n % 10))

-- zeros in front add nothing
pub doubled-enough : (k j n : ℕ) → n < 10 ^ k → k ≤ j → doubled j n ≡ doubled k n
unfolding doubled
doubled-enough zero j n h l = let z : n ≡ 0 = omega arith in rw z (doubled-none j)
doubled-enough (suc k) zero n h l = absurd (omega arith)
doubled-enough (suc k) (suc j) n h l =
    let p = rw pow-suc at h in
    let d : n / 10 < 10 ^ k = omega arith in
    omega (arith, doubled-enough k j (n / 10) d (omega arith))

-- one digit d more on the right
pub doubled-more : (k n d : ℕ) → n < 10 ^ k → d ≤ 9 → doubled (suc k) (n * 10 + d) ≡ doubled (suc k) n * 2 + d
unfolding doubled
doubled-more k n d h l =
    let r : (n * 10 + d) % 10 ≡ d = omega arith in
    let q : (n * 10 + d) / 10 ≡ n = omega arith in
    let e : doubled (suc k) n ≡ doubled k n = doubled-enough k (suc k) n h (omega arith) in
    let m : 2 * doubled k ((n * 10 + d) / 10) + (n * 10 + d) % 10 ≡ 2 * doubled k n + d = rw (r, q) in
    m ∙ omega (arith, e)

-- of a number cut in two: what is on the left is doubled at each digit on the right
doubled-cut : (k j q r : ℕ) → r < 10 ^ k → doubled (k + j) (q * 10 ^ k + r) ≡ 2 ^ k * doubled j q + doubled k r
unfolding doubled
doubled-cut zero j q r h =
    let e : 0 + j ≡ j = omega arith in
    let f : q * 10 ^ 0 + r ≡ q = omega arith in
    ap (λ (n : ℕ). doubled n (q * 10 ^ 0 + r)) e ∙ ap (doubled j) f ∙ omega arith
doubled-cut (suc k) j q r h =
    let e : suc k + j ≡ suc (k + j) = omega arith in
    let t : 2 ^ suc k * doubled j q ≡ 2 * (2 ^ k * doubled j q) = rw (pow-succ', mul_assoc) in
    ap (λ (n : ℕ). doubled n (q * 10 ^ suc k + r)) e
    ∙ omega (arith, t, cut_digit k q r, ap (doubled (k + j)) (cut-rest k q r), doubled-cut k j q (r / 10) (omega (arith, pow-suc 10 k)))

-- ---- two, four and eight digits behind the sum s

pub next-pair : (s n t x y : ℕ) → t ≡ n / 10 → n < 100 → x ≡ s * 2 + t → y ≡ x * 2 + (n - t * 10) → y ≡ 4 * s + doubled 2 n
unfolding doubled
next-pair s n t x y e h f g = omega arith

module _ (s n h x y : ℕ) where
  pub next-four : h ≡ n / 100 → n < 10000 → x ≡ 4 * s + doubled 2 h → y ≡ 4 * x + doubled 2 (n - h * 100) → y ≡ 16 * s + doubled 4 n
  next-four e l f g =
      let c : n ≡ h * 10 ^ 2 + (n - h * 100) = omega arith in
      omega (arith, ap (doubled 4) c, doubled-cut 2 2 h (n - h * 100) (omega arith))

  pub next-eight : h ≡ n / 10000 → n < 100000000 → x ≡ 16 * s + doubled 4 h → y ≡ 16 * x + doubled 4 (n - h * 10000) → y ≡ 256 * s + doubled 8 n
  next-eight e l f g =
      let c : n ≡ h * 10 ^ 4 + (n - h * 10000) = omega arith in
      omega (arith, ap (doubled 8) c, doubled-cut 4 4 h (n - h * 10000) (omega arith))

-- no more than the number adds
module _ (s n y : ℕ) where
  pub pair-most : y ≡ 4 * s + doubled 2 n → y ≤ 4 * s + n
  pair-most e = omega (arith, e, doubled-le 2 n)

  pub four-most : y ≡ 16 * s + doubled 4 n → y ≤ 16 * s + n
  four-most e = omega (arith, e, doubled-le 4 n)

  pub eight-most : y ≡ 256 * s + doubled 8 n → y ≤ 256 * s + n
  eight-most e = omega (arith, e, doubled-le 8 n)

-- ---- the last ten digits of n, of which there may be four or eight

doubled-two : (n : ℕ) → doubled 2 (n % 100) ≡ doubled 2 n
unfolding doubled
doubled-two n =
    let s : n ≡ n / 100 * 10 ^ 2 + n % 100 = omega arith in
    omega (arith, ap (doubled 2) s, doubled-cut 2 0 (n / 100) (n % 100) (omega arith))

module _ (n x : ℕ) where
  pub sum-four : n < 10000 → x ≡ 16 * 0 + doubled 4 n → x ≡ doubled 10 n
  sum-four h e = omega (arith, e, doubled-enough 4 10 n (omega arith) (omega arith))

  pub sum-eight : n < 100000000 → x ≡ 256 * 0 + doubled 8 n → x ≡ doubled 10 n
  sum-eight h e = omega (arith, e, doubled-enough 8 10 n (omega arith) (omega arith))

  pub sum-ten : (y : ℕ) → y ≡ 4 * 0 + doubled 2 (n / 100000000 % 100) → x ≡ 256 * y + doubled 8 (n - n / 100000000 * 100000000) → x ≡ doubled 10 n
  sum-ten y e f =
      let s : n ≡ n / 100000000 * 10 ^ 8 + (n - n / 100000000 * 100000000) = omega arith in
      omega (arith, e, f, ap (doubled 10) s, doubled-cut 8 2 (n / 100000000) (n - n / 100000000 * 100000000) (omega arith), doubled-two (n / 100000000))

pub ruleset sums = (next-pair, next-four, next-eight, pair-most, four-most, eight-most, sum-four, sum-eight, sum-ten, doubled-none)

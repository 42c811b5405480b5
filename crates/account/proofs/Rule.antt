-- The rule of an account's digits by its sums: what a sum that divides by 11 says of the digits. Assumes nothing.
use mathlib.Core.Path.{◌≡◌, refl, sym, ap, ◌∙◌}
use mathlib.Core.Bool.{Bool, false}
use Prim.Native.Nat.{ℕ, zero, suc, ◌+◌, ◌-◌, ◌*◌, ◌/◌, ◌%◌, ◌<◌}
use native.Mathlib.Nat.{mod-eq_of_lt, mul-mod_right}
use native.Mathlib.Omega.{arith}
use lib.Dec.{eqb, ltb, leb}
use borrow.Author.Tests.{eq-eqb, ne_eqb, le-leb, lt-ltb}
use Rattle.base.specs.Pick.{pick}
use Rattle.base.proofs.Cases.{by-eq, pick_true, pick-false}
use Rattle.paper.specs.Accounts.{non_zero, account_ok}
use Rattle.account.specs.Doubled.{doubled, sums_ok}
use Rattle.account.proofs.Doubled.{doubled-none, doubled-enough, rest-is}

-- no digit but 0, no sum
none : (k n : ℕ) → non_zero k n ≡ 0 → doubled k n ≡ 0
unfolding doubled non_zero pick
none zero n h = refl
none (suc k) n h =
    by-eq (n % 10) 0
    (λ e. omega (arith, none k (n / 10) (omega (arith, simp (eq-eqb (n % 10) 0 e) at h))))
    (λ e. absurd (omega (arith, simp (ne_eqb (n % 10) 0 e) at h)))

-- and the other way round
zeroes : (k n : ℕ) → doubled k n ≡ 0 → non_zero k n ≡ 0
unfolding doubled non_zero pick
zeroes zero n h = refl
zeroes (suc k) n h =
    let e : n % 10 ≡ 0 = omega arith in
    simp (eq-eqb (n % 10) 0 e) (omega (arith, zeroes k (n / 10) (omega arith)))

-- twice a number divides by 11 only if the number does: twelve of it are eleven of it and itself
half : (x : ℕ) → 2 * x % 11 ≡ 0 → x % 11 ≡ 0
half x h = let e : x ≡ 11 * (6 * (2 * x / 11) - x) = omega arith in ap (λ (n : ℕ). n % 11) e ∙ mul-mod_right 11 (6 * (2 * x / 11) - x)

-- one digit that is not 0: the sum does not divide by 11
lone : (k n : ℕ) → non_zero k n ≡ 1 → doubled k n % 11 ≡ 0 → ⊥
unfolding doubled non_zero pick
lone zero n h g = omega arith
lone (suc k) n h g =
    by-eq (n % 10) 0
    (λ e.
    let d : 2 * doubled k (n / 10) + n % 10 ≡ 2 * doubled k (n / 10) = omega (arith, e) in
    lone k (n / 10) (omega (arith, simp (eq-eqb (n % 10) 0 e) at h)) (half (doubled k (n / 10)) (rw d at g)))
    (λ e.
    let z : doubled k (n / 10) ≡ 0 = none k (n / 10) (omega (arith, simp (ne_eqb (n % 10) 0 e) at h)) in
    let d : 2 * doubled k (n / 10) + n % 10 ≡ n % 10 = omega (arith, z) in
    e (sym (mod-eq_of_lt {n = n % 10} {m = 11} (omega arith)) ∙ rw d at g))

-- so a sum that divides by 11 and is not 0 has two digits or more that are not 0
pub counted : (k b : ℕ) → doubled k b % 11 ≡ 0 → ltb 0 (doubled k b) ≡ leb 2 (non_zero k b)
counted k b h =
    by-eq (non_zero k b) 0
    (λ e. rw (none k b e, e))
    (λ n. by-eq (non_zero k b) 1
    (λ e. absurd (lone k b e h))
    (λ m. lt-ltb 0 (doubled k b) (by-eq (doubled k b) 0 (λ z. absurd (n (zeroes k b z))) (λ z. omega arith)) ∙ sym (le-leb 2 (non_zero k b) (omega arith))))

-- the rule by these sums
pub sums-are : (p b : ℕ) → sums_ok (doubled 10 p) (doubled 10 b) ≡ account_ok p b
unfolding sums_ok account_ok
sums-are p b =
    rw (rest-is 10 p, rest-is 10 b)
    (ap (λ x. pick (eqb (doubled 10 p % 11) 0) x false)
    (by-eq (doubled 10 b % 11) 0
    (λ e. pick_true _ _ (eq-eqb _ _ e) ∙ counted 10 b e ∙ sym (pick_true _ _ (eq-eqb _ _ e)))
    (λ n. pick-false _ _ (ne_eqb _ _ n) ∙ sym (pick-false _ _ (ne_eqb _ _ n)))))

pub sums-rule : (p b x y : ℕ) (r : Bool) → x ≡ doubled 10 p → y ≡ doubled 10 b → r ≡ sums_ok x y → r ≡ account_ok p b
sums-rule p b x y r e f g = g ∙ rw (e, f) (sums-are p b)

-- with no prefix
pub base-rule : (p b y : ℕ) (r : Bool) → p ≡ 0 → y ≡ doubled 10 b → r ≡ sums_ok 0 y → r ≡ account_ok p b
base-rule p b y r e f g = sums-rule p b 0 y r (rw e (sym (doubled-none 10))) f g

-- of numbers with no more than ten digits, whose sums are those of all their digits
pub sums-of : (p b : ℕ) → p < 10000000000 → b < 10000000000 → sums_ok (doubled 19 p) (doubled 19 b) ≡ account_ok p b
sums-of p b h k = rw (doubled-enough 10 19 p h (omega arith), doubled-enough 10 19 b k (omega arith)) (sums-are p b)

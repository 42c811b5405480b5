-- What a proper account has: a prefix below 10 ^ 6, a base below 10 ^ 10 with two digits or more, and the rule. So it is not nobody.
-- Assumes nothing.
use mathlib.Core.Path.{◌≡◌, refl}
use mathlib.Core.Bool.{true, false}
use Prim.Native.Nat.{ℕ, zero, suc, ◌/◌, ◌%◌, ◌≤◌, ◌<◌}
use native.Mathlib.Omega.{arith}
use lib.Dec.{eqb, ltb, leb}
use borrow.Author.Tests.{ltb-true, leb-true, eqb-true, lt-ltb, ne_eqb, eq-eqb}
use Rattle.base.specs.Pick.{pick}
use Rattle.base.proofs.Cases.{by-eq, by-lt, either, pick-both, both-pick, pick_true, pick-false}
use Rattle.paper.specs.Read.{value, fault}
use Rattle.paper.specs.Accounts.{Account, account, nobody, rest, non_zero, account_ok, ruled, account_proper, is_nobody}

-- a number with no digit but 0, and one of one digit
none : (k : ℕ) → non_zero k 0 ≡ 0
unfolding non_zero pick
none zero = refl
none (suc k) = omega (arith, none k)

one-digit : (k b : ℕ) → b < 10 → non_zero k b ≤ 1
unfolding non_zero
one-digit zero b h = omega arith
one-digit (suc k) b h =
    let e : b / 10 ≡ 0 = omega arith in
    let d : pick (eqb (b % 10) 0) 0 1 ≤ 1 = either (λ x. x ≤ 1) (eqb (b % 10) 0) (λ t. omega arith) (λ t. omega arith) in
    rw e (omega (arith, none k))

module _ (p b : ℕ) where
  -- a base that keeps the rule has two digits
  pub ok-long : account_ok p b ≡ true → 10 ≤ b
  unfolding account_ok
  ok-long e =
      let f = pick-both (eqb (rest 10 p) 0) (pick (eqb (rest 10 b) 0) (leb 2 (non_zero 10 b)) false) e in
      let g = pick-both (eqb (rest 10 b) 0) (leb 2 (non_zero 10 b)) f.1 in
      by-lt b 10 (λ lt. absurd (omega (arith, one-digit 10 b lt, leb-true 2 (non_zero 10 b) g.1))) (λ le. le)

  -- what `ruled` answers
  pub ruled-ok : account_ok p b ≡ true → ruled p b ≡ value (account p b)
  unfolding ruled
  ruled-ok e = pick_true _ _ e

  pub ruled-broken : account_ok p b ≡ false → ruled p b ≡ fault 5
  unfolding ruled
  ruled-broken e = pick-false _ _ e

  pub proper : p < 1000000 → b < 10000000000 → account_ok p b ≡ true → account_proper (account p b) ≡ true
  unfolding account_proper
  proper h k e = both-pick _ _ (lt-ltb p 1000000 h) (both-pick _ _ (lt-ltb b 10000000000 k) e)

module _ (a : Account) (h : account_proper a ≡ true) where
  halves : (ltb a.prefix 1000000 ≡ true) × (ltb a.base 10000000000 ≡ true) × (account_ok a.prefix a.base ≡ true)
  unfolding account_proper
  halves =
      let f = pick-both (ltb a.prefix 1000000) (pick (ltb a.base 10000000000) (account_ok a.prefix a.base) false) h in
      let g = pick-both (ltb a.base 10000000000) (account_ok a.prefix a.base) f.1 in
      (f.0, g.0, g.1)

  pub proper-prefix : a.prefix < 1000000
  proper-prefix = ltb-true a.prefix 1000000 halves.0

  pub proper-base : a.base < 10000000000
  proper-base = ltb-true a.base 10000000000 halves.1

  pub proper-ok : account_ok a.prefix a.base ≡ true
  proper-ok = halves.2

  pub proper-long : 10 ≤ a.base
  proper-long = ok-long a.prefix a.base proper-ok

  -- no proper account is nobody
  pub proper-somebody : is_nobody a ≡ false
  unfolding is_nobody pick
  proper-somebody = by-eq a.prefix 0 (λ e. simp (eq-eqb a.prefix 0 e) (ne_eqb a.base 0 (λ z. omega (arith, proper-long)))) (λ n. simp (ne_eqb a.prefix 0 n))

-- and who is nobody is that nobody
pub nobody-is : (a : Account) → is_nobody a ≡ true → a ≡ nobody
unfolding is_nobody
nobody-is a h =
    let b = pick-both (eqb a.prefix 0) (eqb a.base 0) h in
    let p : a.prefix ≡ 0 = eqb-true a.prefix 0 b.0 in
    let q : a.base ≡ 0 = eqb-true a.base 0 b.1 in
    let z : account a.prefix a.base ≡ nobody = rw (p, q) in z

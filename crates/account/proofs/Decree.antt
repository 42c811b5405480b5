-- The decree's weights are the rests by 11 of the powers of 2, and its rule is that of `Accounts`, of every prefix and base. Assumes nothing.
use mathlib.Core.Path.{◌≡◌, refl, sym, ap, ◌∙◌}
use Prim.Native.Nat.{ℕ, zero, suc, ◌+◌, ◌*◌, ◌/◌, ◌%◌, ◌^◌}
use native.Mathlib.Nat.{add-mul, mul-add, mul_assoc, mul_left_comm, pow-succ', div-add-mod}
use native.Mathlib.Omega.{arith}
use Rattle.paper.specs.Accounts.{rest, account_ok}
use Rattle.account.specs.Doubled.{doubled}
use Rattle.account.specs.Decree.{decree, weighted, decreed, powers}
use Rattle.account.proofs.Doubled.{rest-is}

-- where they come from: 1, 2, 4, 8, and then 16, 32, 64, 128, 256, 512 without their elevens
pub decree-powers : decree ≡ powers 10 0
unfolding powers
decree-powers = refl

-- a factor may lose its elevens
less-elevens : (a d x : ℕ) → (a % 11 * d + x) % 11 ≡ (a * d + x) % 11
less-elevens a d x =
    let e : 11 * (a / 11 * d) + a % 11 * d ≡ a * d = rw (← mul_assoc, ← add-mul, div-add-mod) in
    omega (arith, e)

-- k digits, each times its power: all of them doubled j times, and each once more for every digit on its right
by-powers : (k j n : ℕ) → weighted (powers k j) n % 11 ≡ 2 ^ j * doubled k n % 11
unfolding weighted powers doubled
by-powers zero j n = omega arith
by-powers (suc k) j n =
    let s : 2 ^ j * (2 * doubled k (n / 10) + n % 10) ≡ 2 * (2 ^ j * doubled k (n / 10)) + 2 ^ j * (n % 10) = rw (mul-add, mul_left_comm) in
    let t : 2 ^ suc j * doubled k (n / 10) ≡ 2 * (2 ^ j * doubled k (n / 10)) = rw (pow-succ', mul_assoc) in
    less-elevens (2 ^ j) (n % 10) (weighted (powers k (suc j)) (n / 10)) ∙ omega (arith, s, t, by-powers k (suc j) (n / 10))

-- so doubling from the left gives the rest of the weighted sum, of every number
pub decree-rest : (n : ℕ) → rest 10 n ≡ weighted decree n % 11
decree-rest n = rest-is 10 n ∙ sym (ap (λ ws. weighted ws n % 11) decree-powers ∙ by-powers 10 0 n ∙ omega arith)

-- and the decree's rule is that of `Accounts`
pub decree-same : (p b : ℕ) → account_ok p b ≡ decreed p b
unfolding account_ok decreed
decree-same p b = rw (decree-rest p, decree-rest b)

-- The sum by doubling whose rest by 11 is taken once, at the end, and not at each digit. Document 01, "Accounts"; document 02, W-203.
-- Assumes nothing.
use Rattle.std.specs.Prelude.{ℕ, zero, suc, ◌+◌, ◌*◌, ◌/◌, ◌%◌, Bool, false, eqb, ltb}
use Rattle.base.specs.Pick.{pick}

-- the last k digits of n, from the left: twice what there is, plus the digit
unfoldable pub doubled : ℕ → ℕ → ℕ
doubled zero n = 0
doubled (suc k) n = 2 * doubled k (n / 10) + n % 10

-- such sums of a prefix and a base leave no rest, and the base has some digit
unfoldable pub sums_ok : ℕ → ℕ → Bool
sums_ok p b = pick (eqb (p % 11) 0) (pick (eqb (b % 11) 0) (ltb 0 b) false) false

-- Accounts by their digits. Document 01, "Accounts". Assumes nothing.
use Rattle.std.specs.Prelude.{ℕ, ◌+◌, ◌-◌, ◌/◌, ◌%◌, ◌≤◌, ◌<◌, Bool, false, List, eqb, ltb, get_or, drop}
use Rattle.base.specs.Pick.{pick}
use Rattle.base.specs.Seek.{seek}
use Rattle.paper.specs.Read.{Field, fault}
use Rattle.paper.specs.Bytes.{space, field_of}
use Rattle.paper.specs.Accounts.{Account, nobody, ruled, only_zeros}
use Rattle.numeral.specs.field.At.{At, found, missed}

-- n digits with no dash, up to 16, whose number is v: a base, or where a sheet takes it (`joined`) a prefix and the ten digits of a base
unfoldable pub undashed : Bool → ℕ → ℕ → ℕ → Field Account
undashed joined least n v =
    pick (ltb 10 n)
    (pick joined (ruled (v / 10000000000) (v % 10000000000)) (fault 4))
    (pick (ltb n least) (fault 4) (ruled 0 v))

-- the digits of the line s from `at` to `end` are as many as a prefix may have, and a dash follows
unfoldable pub dashed : List ℕ → ℕ → ℕ → Bool
dashed s at end = pick (ltb (end - at) 1) false (pick (ltb 6 (end - at)) false (eqb (get_or s end 0) 45))

-- the field of the line s at `at`, which n refuses as an account: nobody where only zeros are looked for and there
unfoldable pub zeros_at : Bool → ℕ → List ℕ → ℕ → At Account
zeros_at allzero n s at = pick (pick allzero (only_zeros (field_of (drop at s))) false) (found nobody (at + seek space (drop at s))) (missed n)

-- v as a number of n digits: if they are ten or fewer, it is below 10 ^ 10
pub record Short (n v : ℕ) : Type 0 where
  pub small : n ≤ 10 → v < 10000000000

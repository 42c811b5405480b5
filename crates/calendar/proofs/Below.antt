-- A test that is computed at every number below a bound, and what it says of each of them. Assumes nothing.
use mathlib.Core.Path.{◌≡◌, refl}
use mathlib.Core.Bool.{Bool, true, false}
use Prim.Native.Nat.{ℕ, zero, suc, ◌<◌}
use native.Mathlib.Omega.{arith}
use lib.Dec.{T}
use Rattle.base.proofs.Cases.{by-eq}

abbrev both : Bool → Bool → Bool
both true b = b
both false b = false

both_left : (a b : Bool) → T (both a b) → a ≡ true
both_left true b t = refl
both_left false b t = absurd t

both_right : (a b : Bool) → T (both a b) → T b
both_right true b t = t
both_right false b t = absurd t

-- the test passes at 0 to k - 1
abbrev pub below : (ℕ → Bool) → ℕ → Bool
below p zero = true
below p (suc k) = both (p k) (below p k)

pub at_each : (p : ℕ → Bool) (k : ℕ) → T (below p k) → (i : ℕ) → i < k → p i ≡ true
at_each p zero t i h = absurd (omega arith)
at_each p (suc k) t i h =
    by-eq i k (λ e. rw e (both_left (p k) (below p k) t)) (λ n. at_each p k (both_right (p k) (below p k) t) i (omega arith))

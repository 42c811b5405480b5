-- Texts counted: of several parts one after another, digit after digit, and by a test. Assumes nothing.
use mathlib.Core.Path.{◌≡◌, refl, sym, ◌∙◌}
use mathlib.Core.Bool.{Bool, true, false}
use mathlib.Core.List.{List, [], ◌∷◌, ◌++◌}
use Prim.Native.Nat.{ℕ, zero, suc, ◌+◌, ◌-◌, ◌/◌, ◌%◌, ◌<◌, ◌≤◌}
use native.Mathlib.Omega.{arith}
use lib.Dec.{eqb, ltb}
use borrow.Author.Tests.{eq-eqb, ne_eqb, lt-ltb, le-ltb}
use Rattle.base.specs.Pick.{pick}
use Rattle.base.proofs.Cases.{pick_true, pick-false}
use Rattle.paper.specs.Numerals.{fixed, fixed_on}
use Rattle.numeral.specs.counted.Counted.{Counted}
use Rattle.numeral.proofs.Fixed.{fixed-append}
use Rattle.numeral.proofs.counted.Laws.{counted-nothing, ◌counted-then◌}

-- ---- parts: t is the whole, however its parts are bracketed

module _ {o o1 o2 t x y : List ℕ} {at d e : ℕ} (v : Counted o at x o1 d) (w : Counted o1 d y o2 e) where
  pub in_two : x ++ y ≡ t → Counted o at t o2 e
  in_two is = rw (← is) (v counted-then w)

  module _ {o3 z : List ℕ} {f : ℕ} (u : Counted o2 e z o3 f) where
    pub in_three : x ++ (y ++ z) ≡ t → Counted o at t o3 f
    in_three is = rw (← is) (v counted-then w counted-then u)

-- ---- the last k digits of n

module _ (n : ℕ) {o : List ℕ} {at : ℕ} where
  pub no_digits : (k : ℕ) → k ≡ 0 → Counted o at (fixed k n) o at
  unfolding fixed fixed_on
  no_digits k e = rw e counted-nothing

  pub last_digit : (k : ℕ) {o1 o2 : List ℕ} {e r : ℕ} → (k ≡ 0 → ⊥) → Counted o at (fixed (k - 1) (n / 10)) o1 e → Counted o1 e ((48 + n % 10) ∷ []) o2 r
      → Counted o at (fixed k n) o2 r
  unfolding fixed fixed_on
  last_digit zero d v w = absurd (d refl)
  last_digit (suc k) d v w = let e : suc k - 1 ≡ k = omega arith in in_two (rw e at v) w (fixed-append k (n / 10) [] ((48 + n % 10) ∷ []))

pub ruleset digit_by_digit = (no_digits, last_digit)

-- ---- tests

module _ (a b : List ℕ) {o o1 : List ℕ} {at r : ℕ} where
  module _ (m n : ℕ) where
    pub counted-eq : m ≡ n → Counted o at a o1 r → Counted o at (pick (eqb m n) a b) o1 r
    counted-eq e w = rw (pick_true a b (eq-eqb m n e)) w

    pub counted-ne : (m ≡ n → ⊥) → Counted o at b o1 r → Counted o at (pick (eqb m n) a b) o1 r
    counted-ne e w = rw (pick-false a b (ne_eqb m n e)) w

    -- m is known to be another number
    pub counted-other : {k : ℕ} → m ≡ k → eqb k n ≡ false → Counted o at b o1 r → Counted o at (pick (eqb m n) a b) o1 r
    counted-other e f w = rw (e, pick-false a b f) w

    pub counted-lt : m < n → Counted o at a o1 r → Counted o at (pick (ltb m n) a b) o1 r
    counted-lt e w = rw (pick_true a b (lt-ltb m n e)) w

    pub counted-ge : n ≤ m → Counted o at b o1 r → Counted o at (pick (ltb m n) a b) o1 r
    counted-ge e w = rw (pick-false a b (le-ltb m n e)) w

  module _ (t : Bool) where
    pub counted-yes : t ≡ true → Counted o at a o1 r → Counted o at (pick t a b) o1 r
    counted-yes e w = rw (pick_true a b e) w

    pub counted-not : t ≡ false → Counted o at b o1 r → Counted o at (pick t a b) o1 r
    counted-not e w = rw (pick-false a b e) w

  -- .. that a callee made: t is what it answered
  module _ (t u : Bool) (g : t ≡ u) where
    pub counted-true : t ≡ true → Counted o at a o1 r → Counted o at (pick u a b) o1 r
    counted-true e w = rw (pick_true a b (sym g ∙ e)) w

    pub counted-false : t ≡ false → Counted o at b o1 r → Counted o at (pick u a b) o1 r
    counted-false e w = rw (pick-false a b (sym g ∙ e)) w

pub ruleset by_number = (counted-eq, counted-ne, counted-other)

pub ruleset by_answer = (counted-yes, counted-not, counted-nothing)

pub ruleset by-callee = (counted-true, counted-false)

-- One step of a verdict through the test of a field, for `search`: how code that tests fields one after another meets the definition. Assumes nothing.
use mathlib.Core.Path.{◌≡◌, refl, sym, ◌∙◌}
use mathlib.Core.Bool.{Bool, true, false, not}
use Prim.Native.Nat.{ℕ, ◌≤◌, ◌<◌}
use lib.Dec.{ltb}
use borrow.Author.Tests.{lt-ltb, le-ltb}
use Rattle.base.proofs.Cases.{pick_true, pick-false}
use Rattle.paper.specs.Proper.{Verdict, wrong, check}

is_false : (t : Bool) → not t ≡ true → t ≡ false
is_false true e = sym e
is_false false e = refl

pub is_true : (t : Bool) → not t ≡ false → t ≡ true
is_true true e = refl
is_true false e = sym e

module _ (k n : ℕ) (r rest : Verdict) where
  -- a test whose answer is known
  module _ (u : Bool) where
    pub holds : u ≡ true → r ≡ rest → r ≡ check k n u rest
    unfolding check
    holds h e = e ∙ sym (pick_true rest (wrong k n) h)

    pub lacks : u ≡ false → r ≡ wrong k n → r ≡ check k n u rest
    unfolding check
    lacks h e = e ∙ sym (pick-false rest (wrong k n) h)

  -- a test that a callee made: t is what it answered, and the code asks whether it did not hold
  module _ (t u : Bool) (g : t ≡ u) where
    pub passes : not t ≡ false → r ≡ rest → r ≡ check k n u rest
    passes h e = holds u (sym g ∙ is_true t h) e

    pub fails : not t ≡ true → r ≡ wrong k n → r ≡ check k n u rest
    fails h e = lacks u (sym g ∙ is_false t h) e

  -- a number below a bound, or not
  module _ (a b : ℕ) where
    pub below : a < b → r ≡ rest → r ≡ check k n (ltb a b) rest
    below h e = holds (ltb a b) (lt-ltb a b h) e

    pub beyond : b ≤ a → r ≡ wrong k n → r ≡ check k n (ltb a b) rest
    beyond h e = lacks (ltb a b) (le-ltb a b h) e

pub ruleset fields = (passes, fails, below, beyond)

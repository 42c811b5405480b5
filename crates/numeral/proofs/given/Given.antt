-- Laws of `Field` and `given`. Assumes nothing.
use Rattle.std.proofs.Common.{◌≡◌, ℕ, Bool, true, false, sym, refl, arith}
use Rattle.base.specs.Pick.{pick}
use Rattle.paper.specs.Read.{Field, value, fault, given}

module _ {A : Type 0} where
  -- a value is no refusal, and says what it holds
  pub value-fault : {P : Type 0} (a : A) (n : ℕ) → value a ≡ fault n → P
  value-fault a n e = absurd (let z : ◌≡◌ {A = ℕ} 0 1 = cc in omega arith)

  pub value_same : (a b : A) → value a ≡ value b → a ≡ b
  value_same a b e = cc

-- What is read on.
module _ {A B : Type 0} (k : A → Field B) where
  pub given-on : (x : Field A) (a : A) → x ≡ value a → given x k ≡ k a
  unfolding given
  given-on x a e = rw e

  -- a value came of a value
  pub given-value : (x : Field A) (b : B) → given x k ≡ value b → (a : A) × (x ≡ value a) × (k a ≡ value b)
  unfolding given
  given-value (value a) b e = (a, refl, e)
  given-value (fault n) b e = value-fault b n (sym e)

-- A value that a test let through: where it was to hold,
pub passed : {A : Type 0} (t : Bool) (a v : A) (n : ℕ) → pick t (value a) (fault n) ≡ value v → (t ≡ true) × (a ≡ v)
unfolding pick
passed true a v n e = (refl, value_same a v e)
passed false a v n e = value-fault v n (sym e)

-- and where it was not.
pub kept : {A : Type 0} (t : Bool) (a v : A) (n : ℕ) → pick t (fault n) (value a) ≡ value v → (t ≡ false) × (a ≡ v)
unfolding pick
kept true a v n e = value-fault v n (sym e)
kept false a v n e = (refl, value_same a v e)

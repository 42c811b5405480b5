-- What one reader of a field reads as a value another one reads as the same value. Assumes nothing.
use mathlib.Core.Path.{◌≡◌, refl}
use Prim.Native.Nat.{ℕ}
use native.Mathlib.Omega.{arith}
use Rattle.paper.specs.Read.{Field, value, fault, given}

-- the second reading has the first one's value, if that has one, and one that `On` lets through
pub record TakesOn {A : Type 0} (On : A → Type 0) (x y : Field A) : Type 0 where
  pub takes : (v : A) → On v → x ≡ value v → y ≡ value v

-- .. whatever the value is
abbrev pub Takes : {A : Type 0} → Field A → Field A → Type 0
Takes x y = TakesOn (λ v. Unit {0}) x y

module _ {A : Type 0} {On : A → Type 0} where
  pub alike : {x : Field A} → TakesOn On x x
  alike = record { takes = λ v on e. e }

  pub refused : {n : ℕ} {y : Field A} → TakesOn On (fault n) y
  refused = record { takes = λ v on e. absurd (let z : ◌≡◌ {A = ℕ} 0 1 = cc in omega arith) }

-- what is read on
pub read-on : {A B : Type 0} (x y : Field A) {k l : A → Field B} → Takes x y → ((v : A) → Takes (k v) (l v)) → Takes (given x k) (given y l)
unfolding given
read-on (value v) y r h = rw (r.takes v tt refl) (h v)
read-on (fault n) y r h = refused

-- what is not read is not read on
pub not_on : {A B : Type 0} (x : Field A) (k : A → Field B) {y : Field B} → ((z : Field A) → Takes x z) → Takes (given x k) y
unfolding given
not_on (value v) k h = absurd (let e : fault 0 ≡ value v = (h (fault 0)).takes v tt refl in let z : ◌≡◌ {A = ℕ} 0 1 = cc in omega arith)
not_on (fault n) k h = refused

-- How a field is read: as a value, or not at all, with the number of the refusal. Document 01, "Numbers returned". Assumes nothing.
use Rattle.std.specs.Prelude.{ℕ}

-- a value of the kind A, or the refusal's number
pub data Field (A : Type 0) : Type 0 where
  value : A → Field A
  fault : ℕ → Field A

-- the value is read on, a refusal stays
unfoldable pub given : {A B : Type 0} → Field A → (A → Field B) → Field B
given (value v) k = k v
given (fault n) k = fault n

-- What a line said before its refusal took along the line's number and its byte in the file. Assumes nothing.
use Rattle.std.proofs.Common.{◌≡◌, ℕ, ◌+◌, Result, Ok, Err, refl, arith}
use Rattle.refusal.specs.declared.Flaw.{Flaw}
use Rattle.judge.specs.declared.refused.Refused.{Refused}
use Rattle.judge.specs.refused.Lined.{lined}

module _ {T : Type 0} (k at : ℕ) where
  -- what was read was read
  pub was-ok : (r : Result T Flaw) (v : T) → lined r k at ≡ Ok v → r ≡ Ok v
  was-ok (Ok w) v q = let e : w ≡ v = cc in rw e
  was-ok (Err y) v q = absurd (let z : ◌≡◌ {A = ℕ} 0 1 = cc in omega arith)

  -- a refusal is the same, at that place
  pub was-err : (r : Result T Flaw) (x : Refused) → lined r k at ≡ Err x → (y : Flaw) × (r ≡ Err y) × ◌≡◌ {A = Refused} x (record { refusal = y.0; line = k; byte = at + y.1 })
  was-err (Ok v) x q = absurd (let z : ◌≡◌ {A = ℕ} 0 1 = cc in omega arith)
  was-err (Err y) x q = (y, refl, cc)

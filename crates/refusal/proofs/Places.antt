-- What an answer said before its refusal took a place along. Assumes nothing.
use Rattle.std.proofs.Common.{◌≡◌, ℕ, Result, Ok, Err, ap, arith}
use Rattle.refusal.specs.declared.Refusal.{Refusal}
use Rattle.refusal.specs.declared.Flaw.{Flaw}
use Rattle.refusal.specs.Placed.{placed}

module _ {T : Type 0} where
  -- what was read was read
  pub was-ok : (n : Result T Refusal) (at : ℕ) (v : T) → placed n at ≡ Ok v → n ≡ Ok v
  was-ok (Ok w) at v q = let e : w ≡ v = cc in rw e
  was-ok (Err r) at v q = absurd (let z : ◌≡◌ {A = ℕ} 0 1 = cc in omega arith)

  -- a refusal is the same, at that place
  pub was-err : (n : Result T Refusal) (at : ℕ) (x : Flaw) → placed n at ≡ Err x → (n ≡ Err x.0) × (at ≡ x.1)
  was-err (Ok v) at x q = absurd (let z : ◌≡◌ {A = ℕ} 0 1 = cc in omega arith)
  was-err (Err r) at x q = let p : ◌≡◌ {A = Flaw} (record { 0 = r; 1 = at }) x = cc in (let e : r ≡ x.0 = ap (λ (y : Flaw). y.0) p in rw e, ap (λ (y : Flaw). y.1) p)

-- The ranges of payee bank and priority. Assumes nothing.
use mathlib.Core.Path.{◌≡◌, sym}
use mathlib.Core.Bool.{true}
use Prim.Native.Nat.{ℕ, ◌≤◌}
use lib.Dec.{ltb}
use borrow.Author.Tests.{le-ltb, le-leb, ltb-false, leb-true}
use Rattle.base.specs.Pick.{pick}
use Rattle.base.proofs.Cases.{by-test}
use Rattle.base.proofs.Seek.{never}
use Rattle.paper.specs.BankField.{bank_proper, priority_proper}

-- what the tests say
pub bank-some : (b : ℕ) → bank_proper b ≡ true → 1 ≤ b
unfolding bank_proper pick
bank-some b h = by-test (ltb b 1) (λ e. never (sym (simp e at h))) (ltb-false b 1)

pub bank-most : (b : ℕ) → bank_proper b ≡ true → b ≤ 9999
unfolding bank_proper pick
bank-most b h = by-test (ltb b 1) (λ e. never (sym (simp e at h))) (λ e. leb-true b 9999 (simp e at h))

pub priority-some : (p : ℕ) → priority_proper p ≡ true → 3 ≤ p
unfolding priority_proper pick
priority-some p h = by-test (ltb p 3) (λ e. never (sym (simp e at h))) (ltb-false p 3)

pub priority-most : (p : ℕ) → priority_proper p ≡ true → p ≤ 9
unfolding priority_proper pick
priority-most p h = by-test (ltb p 3) (λ e. never (sym (simp e at h))) (λ e. leb-true p 9 (simp e at h))

-- and what makes them true
pub bank-in : (b : ℕ) → 1 ≤ b → b ≤ 9999 → bank_proper b ≡ true
unfolding bank_proper pick
bank-in b l h = simp (le-ltb b 1 l, le-leb b 9999 h)

pub priority-in : (p : ℕ) → 3 ≤ p → p ≤ 9 → priority_proper p ≡ true
unfolding priority_proper pick
priority-in p l h = simp (le-ltb p 3 l, le-leb p 9 h)

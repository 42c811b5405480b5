-- The machine of numbers gives the judge's answer in brief, with and without the numbers. Assumes nothing.
use mathlib.Core.Path.{◌≡◌, refl, ap, ◌∙◌}
use mathlib.Core.List.{List}
use Prim.Native.Nat.{ℕ}
use native.Mathlib.Omega.{arith}
use lib.ListN.{length}
use Rattle.sheet.specs.declared.Sheet.{Sheet}
use Rattle.paper.specs.Batch.{Batch, Header, things}
use Rattle.paper.specs.Judge.{Answer, Refused, Accepted}
use Rattle.paper.specs.Judge as judge
use Rattle.tally.specs.Tally as numbers
use Rattle.tally.specs.Short.{No, Yes, brief, short, tally}
use Rattle.tally.proofs.Same as same

pub both : (a : Answer) → short (numbers.brief a) ≡ brief a
unfolding short numbers.brief brief
both (Refused n l p) = refl
both (Accepted h b w) = refl

pub tally-is : (sh : Sheet) (today : ℕ) (f : List ℕ) → tally sh today f ≡ brief (judge.judge sh today f)
unfolding tally
tally-is sh today f = ap short (same.tally-is sh today f) ∙ both (judge.judge sh today f)

-- ---- what the judge answered, from its answer in brief

pub refused-is : (a : Answer) (n l p : ℕ) → brief a ≡ No n l p → a ≡ Refused n l p
unfolding brief
refused-is (Refused n₁ l₁ p₁) n l p e =
    let a : n₁ ≡ n = cc in
    let b : l₁ ≡ l = cc in
    let c : p₁ ≡ p = cc in
    rw (a, b, c)
refused-is (Accepted h b w) n l p e = absurd (let z : ◌≡◌ {A = ℕ} 0 1 = cc in omega arith)

pub accepted-is : (a : Answer) (h : Header) (n w : ℕ) → brief a ≡ Yes h n w → (b : Batch) × (a ≡ Accepted h b w) × (n ≡ length (things b))
unfolding brief
accepted-is (Refused n₁ l₁ p₁) h n w e = absurd (let z : ◌≡◌ {A = ℕ} 0 1 = cc in omega arith)
accepted-is (Accepted h₁ b w₁) h n w e =
    let x : h₁ ≡ h = cc in
    let y : w₁ ≡ w = cc in
    let z : n ≡ length (things b) = cc in
    (b, rw (x, y), z)

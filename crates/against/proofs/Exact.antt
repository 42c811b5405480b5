-- A file is accepted against a register exactly if it is accepted, its date is the register's and none of its numbers is marked. Assumes nothing.
use mathlib.Core.Path.{◌≡◌}
use mathlib.Core.Bool.{true, false}
use mathlib.Core.List.{List}
use mathlib.Core.Logic.{◌↔◌}
use Prim.Native.Nat.{ℕ}
use Rattle.base.proofs.Cases.{pick-false}
use Rattle.sheet.specs.declared.Sheet.{Sheet}
use Rattle.paper.specs.Batch.{Batch, Header}
use Rattle.paper.specs.Judge.{Answer, Accepted, judge}
use Rattle.exact.proofs.Completes.{refused}
use Rattle.register.specs.Register.{Register, fits, used}
use Rattle.against.specs.Against.{judge_on}
use Rattle.against.specs.FirstUsed.{Unused}
use Rattle.against.proofs.Outcome.{Outcome, alike, another, marked, outcome}

-- A sheet without K's number rule does not look at the register.
pub elsewhere : (reg : Register) (sh : Sheet) (today : ℕ) (f : List ℕ) → sh.interval ≡ false → judge_on reg sh today f ≡ judge sh today f
unfolding judge_on
elsewhere reg sh today f i = pick-false _ _ i

-- one with it and with a header does:
module _ (reg : Register) (sh : Sheet) (i : sh.interval ≡ true) (headed : sh.header ≡ true) (today : ℕ) (f : List ℕ) where
  module _ (h : Header) (b : Batch) (w : ℕ) where
    only : {a o : Answer} → Outcome reg sh today f a o → o ≡ Accepted h b w
        → (a ≡ Accepted h b w) × (fits reg h.date ≡ true) × Unused (used reg) b
    only (alike good) e = let r = good h b w e in (e, r.0, r.1)
    only (another _ _) e = refused e
    only (marked _ _) e = refused e

    also : {a o : Answer} → Outcome reg sh today f a o → a ≡ Accepted h b w → fits reg h.date ≡ true → Unused (used reg) b → o ≡ Accepted h b w
    also (alike _) e d u = e
    also (another _ bad) e d u = absurd (bad h b w e (d, u))
    also (marked _ bad) e d u = absurd (bad h b w e (d, u))

  pub accepted-on : (h : Header) (b : Batch) (w : ℕ)
      → judge_on reg sh today f ≡ Accepted h b w ↔ ((judge sh today f ≡ Accepted h b w) × (fits reg h.date ≡ true) × Unused (used reg) b)
  accepted-on h b w = (
    only h b w (outcome reg sh today f headed i),
    λ (e, d, u). also h b w (outcome reg sh today f headed i) e d u,
  )

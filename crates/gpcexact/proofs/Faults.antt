-- Which refusal records get, wherever a head has the fields that sums are refused at. Assumes nothing.
use mathlib.Core.Path.{◌≡◌, refl, sym, ◌∙◌}
use mathlib.Core.List.{List}
use mathlib.Core.Logic.{◌↔◌}
use Prim.Native.Nat.{ℕ}
use native.Mathlib.Omega.{arith}
use Rattle.gpc.specs.Records.{Record}
use Rattle.gpc.specs.Statements.{Statement, Spots, Judged, accepted, refused, judge}
use Rattle.gpc.specs.Spelled.{Say}
use Rattle.gpc.specs.FirstFault.{FirstFault}
use Rattle.gpcexact.proofs.Told.{Told, breaks, told}
use Rattle.gpcexact.proofs.Main.{exact}
use Rattle.gpcexact.proofs.Stops.{stops}

-- no answer is both
not-both : {n k off : ℕ} {ss : List Statement} {A : Type 0} → refused n k off ≡ accepted ss → A
not-both e = let z : ◌≡◌ {A = ℕ} 0 1 = cc in absurd (omega arith)

broken-by : {p : Spots} {rs : List Record} {n k off : ℕ} → Told p rs (refused n k off) → FirstFault p rs n k off
broken-by (breaks o) = o

module _ (p : Spots) (rs : List Record) where
  -- A refusal is given exactly when it names the first fault,
  pub first-fault : (n k off : ℕ) → judge p rs ≡ refused n k off ↔ FirstFault p rs n k off
  first-fault n k off = (λ e. broken-by (rw e at (told p rs)), stops p n k off rs)

  -- and there is no other.
  pub one-fault : (n n' k k' off off' : ℕ) → FirstFault p rs n k off → FirstFault p rs n' k' off' → (n ≡ n') × (k ≡ k') × (off ≡ off')
  one-fault n n' k k' off off' a b = let x = (first-fault n k off).1 a in let y = (first-fault n' k' off').1 b in ((cc), (cc), (cc))

  -- Records are refused exactly when they say nothing.
  refuses : (a : Judged) → judge p rs ≡ a → ((ss : List Statement) → Say rs ss → ⊥)
      → (n : ℕ) × (k : ℕ) × (off : ℕ) × (judge p rs ≡ refused n k off)
  refuses (refused n k off) e none = (n, k, off, e)
  refuses (accepted ss) e none = absurd (none ss ((exact p rs ss).0 e))

  pub says_nothing : ((n : ℕ) × (k : ℕ) × (off : ℕ) × (judge p rs ≡ refused n k off)) ↔ ((ss : List Statement) → Say rs ss → ⊥)
  says_nothing = (λ (n, k, off, e) ss s. not-both (sym e ∙ (exact p rs ss).1 s), refuses (judge p rs) refl)

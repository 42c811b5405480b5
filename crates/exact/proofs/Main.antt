-- Which files are accepted, for any sheet and any day. Assumes nothing.
use mathlib.Core.Path.{◌≡◌}
use mathlib.Core.List.{List}
use mathlib.Core.Logic.{◌↔◌}
use Prim.Native.Nat.{ℕ}
use lib.ListN.{length}
use Rattle.sheet.specs.declared.Sheet.{Sheet}
use Rattle.paper.specs.Batch.{Batch, Header}
use Rattle.paper.specs.Lines.{lines_of}
use Rattle.paper.specs.Spells.{Spells}
use Rattle.paper.specs.Judge.{Accepted, at_first, judge}
use Rattle.exact.proofs.Accepts.{accepts-only, accepts-also}

module _ (sh : Sheet) (today : ℕ) (f : List ℕ) where
  -- A file is accepted as a batch with a header and a count of warnings exactly when it spells them,
  pub exact : (h : Header) (b : Batch) (w : ℕ) → judge sh today f ≡ Accepted h b w ↔ Spells sh today f h b w
  unfolding judge
  exact h b w = (
    λ e. let c = accepts-only sh today h b w (length f) 1 (lines_of 0 f) at_first e in record { lines = c.0; rules = c.1 },
    λ s. accepts-also sh today h b w (length f) 1 (lines_of 0 f) at_first (s.lines, s.rules),
  )

  -- and it spells no others.
  pub unambiguous : (h h' : Header) (b b' : Batch) (w w' : ℕ)
      → Spells sh today f h b w → Spells sh today f h' b' w' → (h ≡ h') × (b ≡ b') × (w ≡ w')
  unambiguous h h' b b' w w' s t = let p = (exact h b w).1 s in let q = (exact h' b' w').1 t in ((cc), (cc), (cc))

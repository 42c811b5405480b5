-- Which refusal a file gets, for any sheet and any day. Assumes nothing.
use mathlib.Core.Path.{◌≡◌, refl, sym, ◌∙◌}
use mathlib.Core.List.{List, []}
use mathlib.Core.Logic.{◌↔◌}
use Prim.Native.Nat.{ℕ}
use lib.ListN.{length}
use Rattle.sheet.specs.declared.Sheet.{Sheet}
use Rattle.paper.specs.Batch.{Batch, Header}
use Rattle.paper.specs.Lines.{lines_of}
use Rattle.paper.specs.Spells.{Spells}
use Rattle.paper.specs.Judge.{Answer, Refused, Accepted, at_first, judge}
use Rattle.paper.specs.FirstFault.{nothing, FirstFault}
use Rattle.exact.proofs.Completes.{refused as not-both}
use Rattle.exact.proofs.Main.{exact}
use Rattle.exact.proofs.faults.Reached.{reached}
use Rattle.exact.proofs.faults.Found.{found}
use Rattle.exact.proofs.faults.Halts.{halts}

module _ (sh : Sheet) (today : ℕ) (f : List ℕ) where
  -- A refusal is given exactly when it names the file's first fault,
  pub refused : (n l p : ℕ) → judge sh today f ≡ Refused n l p ↔ FirstFault sh today f (Refused n l p)
  unfolding judge
  refused n l p = (
    λ e. let o = found sh today (length f) n l p (lines_of 0 f) [] at_first nothing e in
        record { before = o.before; after = o.after; split = o.split; so_far = o.so_far; lawful = o.lawful; broken = o.broken },
    λ o. rw o.split (reached sh today (length f) o.lawful o.after ∙ halts sh today (length f) _ o.lawful o.broken),
  )

  -- and it has no other.
  pub one-fault : (n n' l l' p p' : ℕ)
      → FirstFault sh today f (Refused n l p) → FirstFault sh today f (Refused n' l' p') → (n ≡ n') × (l ≡ l') × (p ≡ p')
  one-fault n n' l l' p p' a b = let x = (refused n l p).1 a in let y = (refused n' l' p').1 b in ((cc), (cc), (cc))

  -- A file is refused exactly when it spells nothing.
  refuses : (a : Answer) → judge sh today f ≡ a → ((h : Header) (b : Batch) (w : ℕ) → Spells sh today f h b w → ⊥)
      → (n : ℕ) × (l : ℕ) × (p : ℕ) × (judge sh today f ≡ Refused n l p)
  refuses (Refused n l p) e none = (n, l, p, e)
  refuses (Accepted h b w) e none = absurd (none h b w ((exact sh today f h b w).0 e))

  pub spells_nothing : ((n : ℕ) × (l : ℕ) × (p : ℕ) × (judge sh today f ≡ Refused n l p))
      ↔ ((h : Header) (b : Batch) (w : ℕ) → Spells sh today f h b w → ⊥)
  spells_nothing = (
    λ (n, l, p, e) h b w s. not-both (sym e ∙ (exact sh today f h b w).1 s),
    refuses (judge sh today f) refl,
  )

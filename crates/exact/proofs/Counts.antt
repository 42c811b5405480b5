-- Counts and totals: what the judge's tests say in numbers. Assumes nothing.
use mathlib.Core.Path.{◌≡◌, refl, sym, ◌∙◌}
use mathlib.Core.Bool.{Bool, true, false}
use Prim.Native.Nat.{ℕ, ◌+◌, ◌<◌, ◌≤◌}
use native.Mathlib.Omega.{arith}
use lib.Dec.{eqb, leb, ltb}
use lib.ListN.{length}
use borrow.Author.Tests.{leb-false, lt-leb, ltb-false, le-ltb, eqb-true, eq-eqb}
use Rattle.base.specs.Pick.{pick}
use Rattle.base.proofs.Cases.{by-test}
use Rattle.sheet.specs.declared.Sheet.{Sheet}
use Rattle.paper.specs.Batch.{most14}
use Rattle.paper.specs.Entries.{item_line}
use Rattle.paper.specs.Spells.{group_items, file_items}
use Rattle.paper.specs.Judge.{InGroup, at_item, is_full, total_broken}

-- no test has both answers
pub wrong : {t : Bool} {A : Type 0} → t ≡ true → t ≡ false → A
wrong p q = let y : true ≡ false = sym p ∙ q in let z : ◌≡◌ {A = ℕ} 0 1 = cc in absurd (omega arith)

-- ---- one item more

module _ (sh : Sheet) (x : InGroup) where
  pub room : is_full sh (at_item x) item_line ≡ false
      → (length x.items + group_items x.groups < 99999) × (length x.items + group_items x.groups + file_items x.files < sh.fileitems)
  unfolding is_full pick
  room e =
      by-test (leb 99999 (length x.items + group_items x.groups))
      (λ y. wrong refl (rw y at e))
      (λ n. (leb-false _ _ n, leb-false sh.fileitems (length x.items + group_items x.groups + file_items x.files) (rw n at e)))

  pub has_room : length x.items + group_items x.groups < 99999 → length x.items + group_items x.groups + file_items x.files < sh.fileitems
      → is_full sh (at_item x) item_line ≡ false
  unfolding is_full pick
  has_room a b = rw (lt-leb 99999 (length x.items + group_items x.groups) a) (lt-leb sh.fileitems _ b)

-- ---- a total that is taken

pub taken : (strict : Bool) (total exact : ℕ) → total_broken strict total exact ≡ false → (exact ≤ most14) × (strict ≡ true → total ≡ exact)
unfolding total_broken pick
taken true total exact e =
    by-test (ltb most14 exact) (λ y. wrong refl (rw y at e))
    (λ n. (ltb-false most14 exact n, λ _. by-test (eqb total exact) (λ y. eqb-true total exact y) (λ m. wrong refl (rw (n, m) at e))))
taken false total exact e = by-test (ltb most14 exact) (λ y. wrong refl (rw y at e)) (λ n. (ltb-false most14 exact n, λ z. wrong z refl))

pub takes : (strict : Bool) (total exact : ℕ) → exact ≤ most14 → (strict ≡ true → total ≡ exact) → total_broken strict total exact ≡ false
unfolding total_broken pick
takes true total exact a b = rw (le-ltb most14 exact a, eq-eqb total exact (b refl))
takes false total exact a b = rw (le-ltb most14 exact a)

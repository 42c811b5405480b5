-- What is sought or tested from a place on is the same from a later one, if nothing of it stands between. Assumes nothing.
use mathlib.Core.Path.{◌≡◌, refl, ap, ◌∙◌}
use mathlib.Core.Bool.{Bool, true, false, not}
use mathlib.Core.List.{List, [], ◌∷◌}
use Prim.Native.Nat.{ℕ, zero, suc, ◌+◌, ◌-◌, ◌≤◌}
use native.Mathlib.Omega.{arith}
use lib.ListN.{take, drop, length-drop}
use lib.Seq.{drop-drop}
use borrow.Author.Tests.{eq-eqb}
use Rattle.base.specs.Pick.{pick}
use Rattle.base.specs.Seek.{all, seek}
use Rattle.base.proofs.Seek.{all_head, all_tail, seek-over}
use Rattle.scan.specs.block.Blocks.{is_other, Skips}

-- ---- over the first k bytes of a text

all-behind : (p : ℕ → Bool) (k : ℕ) (s : List ℕ) → all p (take k s) ≡ true → all p s ≡ all p (drop k s)
unfolding all pick
all-behind p zero s h = refl
all-behind p (suc k) [] h = refl
all-behind p (suc k) (x ∷ s) h = simp (all_head p x (take k s) h) (all-behind p k s (all_tail p x (take k s) h))

itself : (b : ℕ) → is_other b b ≡ false
itself b = ap not (eq-eqb b b refl)

-- ---- from a place of a text on

module _ (s : List ℕ) (at r : ℕ) where
  drops : at ≤ r → drop (r - at) (drop at s) ≡ drop r s
  drops h = let j : at + (r - at) ≡ r = omega arith in drop-drop (r - at) at s ∙ ap (λ (k : ℕ). drop k s) j

  -- tested
  pub all-skipped : (p : ℕ → Bool) → Skips p s at r → all p (drop at s) ≡ all p (drop r s)
  all-skipped p k = all-behind p (r - at) (drop at s) k.between ∙ ap (all p) (drops k.from)

  -- sought
  pub seek-skipped : (b : ℕ) → Skips (is_other b) s at r → at + seek (b ∷ []) (drop at s) ≡ r + seek (b ∷ []) (drop r s)
  seek-skipped b k =
      let f = k.from in
      let l = k.inside in
      let e = seek-over (is_other b) b (itself b) (r - at) (drop at s) (omega (arith, length-drop at s)) k.between in
      let g = ap (seek (b ∷ [])) (drops k.from) in
      omega arith

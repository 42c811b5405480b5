-- Bytes that stand in others at a place, and what stands there of their parts. Assumes nothing.
use mathlib.Core.Path.{◌≡◌, refl, ap}
use mathlib.Core.List.{List, [], ◌∷◌}
use Prim.Native.Nat.{ℕ, zero, suc, ◌+◌, ◌≤◌}
use native.Mathlib.Omega.{arith}
use lib.ListN.{length, take, drop, length-take, length-drop}
use lib.Seq.{drop-drop}
use Rattle.base.proofs.Lists.{empty-cons}
use Rattle.rowlaws.specs.Places.{Here}

-- s is how u begins: so is what s begins with
front : (n : ℕ) (s u : List ℕ) → take (length s) u ≡ s → take (length (take n s)) u ≡ take n s
front zero s u e = refl
front (suc n) [] u e = refl
front (suc n) (x ∷ s) [] e = empty-cons e
front (suc n) (x ∷ s) (y ∷ u) e =
    let a : y ≡ x = cc in
    let b : take (length s) u ≡ s = cc in
    rw a (ap (λ (l : List ℕ). x ∷ l) (front n s u b))

-- .. and what follows n bytes of s follows n bytes of u
back : (n : ℕ) (s u : List ℕ) → take (length s) u ≡ s → take (length (drop n s)) (drop n u) ≡ drop n s
back zero s u e = e
back (suc n) [] u e = refl
back (suc n) (x ∷ s) [] e = empty-cons e
back (suc n) (x ∷ s) (y ∷ u) e = back n s u (cc)

module _ (w : List ℕ) (at : ℕ) (s : List ℕ) (h : Here w at s) where
  pub here-take : (n : ℕ) → Here w at (take n s)
  here-take n = front n s (drop at w) h

  pub here-drop : (n : ℕ) → Here w (at + n) (drop n s)
  here-drop n = rw (← drop-drop n at w) (back n s (drop at w) h)

  -- what stands in s stands in w
  pub here_in : (p : ℕ) (t : List ℕ) → Here s p t → Here w (at + p) t
  here_in p t e = rw e at (front (length t) (drop p s) (drop (at + p) w) (here-drop p))

  -- all of it stands inside
  pub here-inside : 1 ≤ length s → at + length s ≤ length w
  here-inside some = let e : length (take (length s) (drop at w)) ≡ length s = ap length h in omega (arith, length-take (length s) (drop at w), length-drop at w)

-- Bytes cut into pieces of one size: how long the pieces are, that they are the bytes again, and that texts of that size are the pieces of
-- what is joined of them. Assumes nothing.
use mathlib.Core.Path.{◌≡◌, refl, ◌∙◌}
use mathlib.Core.List.{List, [], ◌∷◌, ◌++◌, append-nil}
use Prim.Native.Nat.{ℕ, zero, suc, ◌+◌, ◌-◌, ◌*◌, ◌/◌, ◌≤◌, ◌<◌}
use native.Mathlib.Nat.{suc-mul, zero-div, div-eq-sub-div, div-mul-le_self, lt-div-mul-add}
use native.Mathlib.Numerals.{add-one}
use native.Mathlib.Omega.{arith}
use lib.ListN.{length, take, drop, length-append, length-drop, take-append-drop}
use lib.Seq.{take_at, drop_at, length-take-le}
use Rattle.base.specs.Pick.{pick}
use Rattle.paper.specs.Bytes.{null}
use Rattle.gpc.specs.Parts.{pieces_on, pieces}
use Rattle.gpcback.proofs.Segments.{joined}

-- all but the last of these texts have n bytes, and that has some of them or all
abbrev pub Cut : ℕ → List (List ℕ) → Type 0
Cut n [] = Unit {0}
Cut n (s ∷ []) = length s ≤ n
Cut n (s ∷ t ∷ ss) = (length s ≡ n) × Cut n (t ∷ ss)

module _ (n : ℕ) where
  cut-cons : (s : List ℕ) (ss : List (List ℕ)) → length s ≡ n → Cut n ss → Cut n (s ∷ ss)
  cut-cons s [] e c = omega arith
  cut-cons s (t ∷ ss) e c = (e, c)

  pub cut-head : (s : List ℕ) (ss : List (List ℕ)) → Cut n (s ∷ ss) → length s ≤ n
  cut-head s [] c = c
  cut-head s (t ∷ ss) (e, c) = omega arith

  pub cut-tail : (s : List ℕ) (ss : List (List ℕ)) → Cut n (s ∷ ss) → Cut n ss
  cut-tail s [] c = tt
  cut-tail s (t ∷ ss) (e, c) = c

  on-cut : (k : ℕ) (s : List ℕ) → k * n ≤ length s → length s < k * n + n → Cut n (pieces_on n k s)
  unfolding pieces_on null pick
  on-cut zero [] h l = tt
  on-cut zero (x ∷ s) h l = omega arith
  on-cut (suc k) s h l =
      let m : suc k * n ≡ k * n + n = suc-mul k n in
      let d : length (drop n s) ≡ length s - n = length-drop n s in
      cut-cons (take n s) (pieces_on n k (drop n s)) (length-take-le n s (omega arith)) (on-cut k (drop n s) (omega arith) (omega arith))

  on-whole : (k : ℕ) (s : List ℕ) → joined (pieces_on n k s) [] ≡ s
  unfolding pieces_on null pick
  on-whole zero [] = refl
  on-whole zero (x ∷ s) = append-nil (x ∷ s)
  on-whole (suc k) s = rw (on-whole k (drop n s)) (take-append-drop n s)

  -- the pieces of a text are that text
  pub pieces_whole : (s : List ℕ) → joined (pieces n s) [] ≡ s
  unfolding pieces
  pieces_whole s = on-whole (length s / n) s

module _ (n : ℕ) (p : 0 < n) where
  -- they have n bytes each, but the last may have fewer
  pub pieces-cut : (s : List ℕ) → Cut n (pieces n s)
  unfolding pieces
  pieces-cut s = on-cut n (length s / n) s (div-mul-le_self (length s) n) (lt-div-mul-add p)

  pub pieces_none : pieces n [] ≡ []
  unfolding pieces pieces_on null pick
  pieces_none = rw (zero-div n)

  -- as many bytes as a piece has, or more, begin with one
  pub pieces-one : (s : List ℕ) → n ≤ length s → pieces n s ≡ take n s ∷ pieces n (drop n s)
  unfolding pieces pieces_on
  pieces-one s h =
      let e : length s / n ≡ suc (length (drop n s) / n) = rw length-drop (div-eq-sub-div p h ∙ add-one _) in
      rw e

  -- a text of n bytes in front is the first piece
  pub pieces-first : (x s : List ℕ) → length x ≡ n → pieces n (x ++ s) ≡ x ∷ pieces n s
  pieces-first x s e =
      pieces-one (x ++ s) (omega (arith, length-append x s)) ∙ rw (take_at x s n e, drop_at x s n e)

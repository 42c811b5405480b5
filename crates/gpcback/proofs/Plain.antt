-- A minus before zero taken away from one segment of a text: the others stay, and so do all lengths. Assumes nothing.
use mathlib.Core.Path.{◌≡◌, refl, sym, ap, ◌∙◌}
use mathlib.Core.List.{List, [], ◌∷◌, ◌++◌, append_assoc}
use Prim.Native.Nat.{ℕ, zero, suc, ◌+◌}
use native.Mathlib.Omega.{arith}
use lib.ListN.{length, take, drop, set, get_or}
use lib.Seq.{take-append-le, drop-append-le, take-append-add, drop-append-add}
use Rattle.base.specs.Put.{put}
use Rattle.base.specs.Seek.{all}
use Rattle.base.proofs.Cases.{either_way}
use Rattle.gpc.specs.Parts.{slice}
use Rattle.gpc.specs.Canonical.{is_nought, plain_sign}
use Rattle.gpcback.proofs.Segments.{joined, Sized, start_of, drop-behind}

put-behind : (n at : ℕ) (x s new : List ℕ) → length x ≡ n → put (x ++ s) (n + at) new ≡ x ++ put s at new
unfolding put
put-behind n at x s new e =
    let a : n + at + length new ≡ n + (at + length new) = omega arith in
    rw (a, ← e, take-append-add x s at, drop-append-add x s (at + length new)) (append_assoc x (take at s) _)

put_front : (x s : List ℕ) (b : ℕ) → length x ≡ 15 → put (x ++ s) 14 (b ∷ []) ≡ put x 14 (b ∷ []) ++ s
unfolding put
put_front x s b e =
    rw (take-append-le 14 x s (omega arith), drop-append-le 15 x s (omega arith)) (sym (append_assoc (take 14 x) (b ∷ drop 15 x) s))

module _ (plus : ℕ) where
  plain-behind : (n at : ℕ) (x s : List ℕ) → length x ≡ n → plain_sign plus (n + at) (x ++ s) ≡ x ++ plain_sign plus at s
  unfolding plain_sign
  plain-behind n at x s e =
      let a : n + at + 14 ≡ n + (at + 14) = omega arith in
      rw (drop-behind n at x s e, a, put-behind n (at + 14) x s (plus ∷ []) e)
      (either_way (λ (u v : List ℕ). u ≡ x ++ v) (all is_nought (slice at 14 s)) refl refl)

  plain-front : (x s : List ℕ) → length x ≡ 15 → plain_sign plus 0 (x ++ s) ≡ plain_sign plus 0 x ++ s
  unfolding plain_sign
  plain-front x s e =
      rw (take-append-le 14 x s (omega arith), put_front x s plus e)
      (either_way (λ (u v : List ℕ). u ≡ v ++ s) (all is_nought (slice 0 14 x)) refl refl)

  -- segment k, of fifteen bytes, is made plain: y is what becomes of it
  pub plain-segment : (r ns : List ℕ) (xs : List (List ℕ)) → Sized ns xs → (k : ℕ) → get_or ns k 0 ≡ 15 → (y : List ℕ) → plain_sign plus 0 (get_or xs k []) ≡ y
      → plain_sign plus (start_of ns k) (joined xs r) ≡ joined (set xs k y) r
  plain-segment r [] xs z k h y e = absurd (omega arith)
  plain-segment r (n ∷ ns) [] z k h y e = absurd z
  plain-segment r (n ∷ ns) (x ∷ xs) (l, z) zero h y e = plain-front x (joined xs r) (l ∙ h) ∙ ap (λ (u : List ℕ). u ++ joined xs r) e
  plain-segment r (n ∷ ns) (x ∷ xs) (l, z) (suc k) h y e =
      plain-behind n (start_of ns k) x (joined xs r) l ∙ ap (λ (u : List ℕ). x ++ u) (plain-segment r ns xs z k h y e)

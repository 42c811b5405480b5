-- A text joined of segments whose lengths are known: each is a slice of it, by its place. Assumes nothing.
use mathlib.Core.Path.{◌≡◌, refl, sym, ap, ◌∙◌}
use mathlib.Core.List.{List, [], ◌∷◌, ◌++◌}
use Prim.Native.Nat.{ℕ, zero, suc, ◌+◌, ◌<◌}
use native.Mathlib.Omega.{arith}
use lib.ListN.{length, take, drop, get_or, length-append, take-append-drop}
use lib.Seq.{take_at, drop_at, drop-drop}
use Rattle.gpc.specs.Parts.{slice}

-- segments one after the other, and a rest behind them
abbrev pub joined : List (List ℕ) → List ℕ → List ℕ
joined [] r = r
joined (x ∷ xs) r = x ++ joined xs r

-- they have these lengths
abbrev pub Sized : List ℕ → List (List ℕ) → Type 0
Sized [] [] = Unit {0}
Sized [] (x ∷ xs) = ⊥
Sized (n ∷ ns) [] = ⊥
Sized (n ∷ ns) (x ∷ xs) = (length x ≡ n) × Sized ns xs

-- how much all of these lengths are
abbrev pub extent : List ℕ → ℕ
extent [] = 0
extent (n ∷ ns) = n + extent ns

-- where segment k begins
abbrev pub start_of : List ℕ → ℕ → ℕ
start_of ns zero = 0
start_of [] (suc k) = 0
start_of (n ∷ ns) (suc k) = n + start_of ns k

-- behind a front of n bytes
pub drop-behind : (n at : ℕ) (x s : List ℕ) → length x ≡ n → drop (n + at) (x ++ s) ≡ drop at s
drop-behind n at x s e = sym (drop-drop at n (x ++ s)) ∙ ap (drop at) (drop_at x s n e)

module _ (r : List ℕ) where
  pub segment : (ns : List ℕ) (xs : List (List ℕ)) → Sized ns xs → (k : ℕ) → k < length ns
      → slice (start_of ns k) (get_or ns k 0) (joined xs r) ≡ get_or xs k []
  segment [] xs z k h = absurd (omega arith)
  segment (n ∷ ns) [] z k h = absurd z
  segment (n ∷ ns) (x ∷ xs) (e, z) zero h = take_at x (joined xs r) n e
  segment (n ∷ ns) (x ∷ xs) (e, z) (suc k) h =
      ap (take (get_or ns k 0)) (drop-behind n (start_of ns k) x (joined xs r) e) ∙ segment ns xs z k (omega arith)

  -- what is behind them all
  pub joined-rest : (ns : List ℕ) (xs : List (List ℕ)) → Sized ns xs → drop (extent ns) (joined xs r) ≡ r
  joined-rest [] [] z = refl
  joined-rest [] (x ∷ xs) z = absurd z
  joined-rest (n ∷ ns) [] z = absurd z
  joined-rest (n ∷ ns) (x ∷ xs) (e, z) = drop-behind n (extent ns) x (joined xs r) e ∙ joined-rest ns xs z

  pub joined_length : (ns : List ℕ) (xs : List (List ℕ)) → Sized ns xs → length (joined xs r) ≡ extent ns + length r
  joined_length [] [] z = omega arith
  joined_length [] (x ∷ xs) z = absurd z
  joined_length (n ∷ ns) [] z = absurd z
  joined_length (n ∷ ns) (x ∷ xs) (e, z) = omega (arith, length-append x (joined xs r), joined_length ns xs z)

-- a text's slices of these lengths, from a place on
abbrev pub slices : ℕ → List ℕ → List ℕ → List (List ℕ)
slices at [] s = []
slices at (n ∷ ns) s = slice at n s ∷ slices (at + n) ns s

-- a text is its slices, and what is behind them
pub slices-joined : (at : ℕ) (ns s : List ℕ) → joined (slices at ns s) (drop (at + extent ns) s) ≡ drop at s
slices-joined at [] s = let e : at + 0 ≡ at = omega arith in rw e
slices-joined at (n ∷ ns) s =
    let e : at + (n + extent ns) ≡ at + n + extent ns = omega arith in
    rw (e, slices-joined (at + n) ns s, ← drop-drop n at s) (take-append-drop n (drop at s))

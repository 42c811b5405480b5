-- Elements taken at the places of a table, for any table: how many, what holds of them, and taking again. Assumes nothing.
use mathlib.Core.Path.{◌≡◌, refl, ap}
use mathlib.Core.Bool.{Bool, true}
use mathlib.Core.List.{List, [], ◌∷◌}
use Prim.Native.Nat.{ℕ, zero, suc, ◌+◌, ◌<◌}
use native.Mathlib.Omega.{arith}
use lib.Dec.{ltb}
use lib.ListN.{length, get_or, drop}
use lib.Seq.{drop-cons, drop-length}
use borrow.Author.Tests.{ltb-true}
use Rattle.base.specs.Seek.{all}
use Rattle.base.proofs.Seek.{all_head, all_tail, all_cons}
use Rattle.gpc.specs.Internal.{taken}

-- a list of n elements has the place p
abbrev has : ℕ → ℕ → Bool
has n p = ltb p n

-- it has every place of the table ps: a test, so that of a table it is computed
abbrev pub within : ℕ → List ℕ → Bool
within n ps = all (has n) ps

-- as many as the table has
pub taken-length : (ps d : List ℕ) → length (taken ps d) ≡ length ps
unfolding taken
taken-length [] d = refl
taken-length (p ∷ ps) d = ap suc (taken-length ps d)

get_d-taken : (ps d : List ℕ) (q : ℕ) → q < length ps → get_or (taken ps d) q 0 ≡ get_or d (get_or ps q 0) 0
unfolding taken
get_d-taken [] d q h = absurd (omega arith)
get_d-taken (p ∷ ps) d zero h = refl
get_d-taken (p ∷ ps) d (suc q) h = get_d-taken ps d q (omega arith)

-- taking after taking is taking once
pub taken_twice : (qs ps d : List ℕ) → within (length ps) qs ≡ true → taken qs (taken ps d) ≡ taken (taken qs ps) d
unfolding taken
taken_twice [] ps d h = refl
taken_twice (q ∷ qs) ps d h =
    rw (get_d-taken ps d q (ltb-true q (length ps) (all_head (has (length ps)) q qs h)), taken_twice qs ps d (all_tail (has (length ps)) q qs h))

-- n numbers from k on
unfoldable pub count : ℕ → ℕ → List ℕ
count k zero = []
count k (suc n) = k ∷ count (suc k) n

-- taking every place in order changes nothing
pub taken-count : (n k : ℕ) (d : List ℕ) → k + n ≡ length d → taken (count k n) d ≡ drop k d
unfolding taken count
taken-count zero k d e = let f : k ≡ length d = omega arith in rw (f, drop-length d)
taken-count (suc n) k d e = rw (drop-cons d k 0 (omega arith), taken-count n (suc k) d (omega arith))

-- what holds of every element holds of those that are taken
module _ (t : ℕ → Bool) where
  get_d-all : (d : List ℕ) (p : ℕ) → p < length d → all t d ≡ true → t (get_or d p 0) ≡ true
  get_d-all [] p l h = absurd (omega arith)
  get_d-all (x ∷ d) zero l h = all_head t x d h
  get_d-all (x ∷ d) (suc p) l h = get_d-all d p (omega arith) (all_tail t x d h)

  pub taken-all : (ps d : List ℕ) → within (length d) ps ≡ true → all t d ≡ true → all t (taken ps d) ≡ true
  unfolding taken all
  taken-all [] d w h = refl
  taken-all (p ∷ ps) d w h =
      all_cons t (get_or d p 0) (taken ps d) (get_d-all d p (ltb-true p (length d) (all_head (has (length d)) p ps w)) h) (taken-all ps d (all_tail (has (length d)) p ps w) h)

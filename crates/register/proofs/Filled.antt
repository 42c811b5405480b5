-- An array filled with the words of lent bytes, one after the other. Assumes nothing.
use mathlib.Core.Path.{◌≡◌, refl, ap, ◌∙◌}
use mathlib.Core.List.{List, ◌∷◌, [], ◌++◌, append-nil}
use Prim.Native.Nat.{ℕ, zero, suc, ◌+◌, ◌*◌, ◌≤◌, ◌<◌}
use native.Mathlib.Numerals.{add-one}
use native.Mathlib.Omega.{arith}
use lib.ListN.{length, drop, take, get_or, set, drop_of_length-le}
use lib.Seq.{drop-cons, set_at, append_snoc, length-take-le, take-suc, take_all}
use Rattle.paper.specs.Words.{words}
use Rattle.out.specs.word.Places.{word_here}
use Rattle.out.proofs.word.Laws.{word-here}

pub words_count : (n : ℕ) (s : List ℕ) → length (words n s) ≡ n
unfolding words
words_count zero s = refl
words_count (suc n) s = ap suc (words_count n (drop 8 s))

-- a store right behind what has been filled
push : (p q : List ℕ) (k v : ℕ) → length p ≡ k → k < length q → set (p ++ drop k q) k v ≡ (p ++ (v ∷ [])) ++ drop (k + 1) q
push p q k v e l = rw (add-one, drop-cons q k 0 l, set_at p _ _ v k e, append_snoc)

front : (s q : List ℕ) (i : ℕ) → i < length s → i < length q → set (take i s ++ drop i q) i (get_or s i 0) ≡ take (i + 1) s ++ drop (i + 1) q
front s q i l m = push (take i s) q i (get_or s i 0) (length-take-le i s (omega arith)) m ∙ rw (add-one, take-suc s i 0 l)

-- o is filled up to i with the n words that begin at a place
module _ (s q o : List ℕ) (n at i : ℕ) (inv : o ≡ take i (words n (drop at s)) ++ drop i q) where
  -- one word more
  pub fill_more : (v : ℕ) → i < n → i < length q → v ≡ word_here s (at + 8 * i) → set o i v ≡ take (i + 1) (words n (drop at s)) ++ drop (i + 1) q
  fill_more v l m e = rw (inv, e, ← word-here n s at i l) (front (words n (drop at s)) q i (omega (arith, words_count n (drop at s))) m)

  -- all are there
  pub filled : n ≤ i → length q ≤ i → o ≡ words n (drop at s)
  filled l m =
      inv ∙ rw (take_all i (words n (drop at s)) (omega (arith, words_count n (drop at s))), drop_of_length-le q m, append-nil)

pub ruleset fills = (fill_more, filled)

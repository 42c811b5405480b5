-- How many spaces a line has, from those behind its first byte and before its last six. Assumes nothing.
use mathlib.Core.Path.{◌≡◌, refl, sym, ◌∙◌}
use mathlib.Core.Bool.{Bool, true, false}
use mathlib.Core.List.{List, [], ◌∷◌}
use Prim.Native.Nat.{ℕ, zero, suc, ◌+◌, ◌-◌, ◌≤◌, ◌<◌}
use native.Mathlib.Numerals.{add-one}
use native.Mathlib.Omega.{arith}
use lib.Dec.{eqb, ltb, leb}
use lib.ListN.{length, get_or, drop, length-drop}
use lib.Seq.{drop-cons, drop-drop}
use borrow.Author.Tests.{ltb-true, ltb-false, eqb-true, lt-ltb, le-ltb, le-leb, lt-leb, eq-eqb, ne_eqb}
use Rattle.base.specs.Pick.{pick}
use Rattle.base.specs.Seek.{starts, seek}
use Rattle.base.proofs.Cases.{by-test, by-lt, either, pick-both, pick-not}
use Rattle.base.proofs.Lists.{drop-none}
use Rattle.paper.specs.Bytes.{space}
use Rattle.paper.specs.GroupLine.{space_count}
use Rattle.groupline.specs.Spaced.{spaced}

-- ---- the spaces of a text and of a part of it

fewer : (k : ℕ) (t : List ℕ) → space_count (drop k t) ≤ space_count t
unfolding space_count
fewer zero [] = omega arith
fewer zero (x ∷ t) = omega arith
fewer (suc k) [] = omega arith
fewer (suc k) (x ∷ t) = either (λ (n : ℕ). space_count (drop k t) ≤ n) (eqb x 32) (λ e. omega (arith, fewer k t)) (λ e. fewer k t)

some : (t : List ℕ) → seek space t < length t → 1 ≤ space_count t
unfolding space_count seek starts pick
some [] h = absurd (omega arith)
some (x ∷ t) h = by-test (eqb x 32) (λ e. simp e (omega arith)) (λ e. simp e (some t (omega (arith, simp e at h))))

none : (t : List ℕ) → length t ≤ seek space t → space_count t ≡ 0
unfolding space_count seek starts pick
none [] h = refl
none (x ∷ t) h = by-test (eqb x 32) (λ e. absurd (omega (arith, simp e at h))) (λ e. simp e (none t (omega (arith, simp e at h))))

-- those from i on
module _ (s : List ℕ) (i : ℕ) (l : i < length s) where
  on-space : get_or s i 0 ≡ 32 → space_count (drop i s) ≡ suc (space_count (drop (i + 1) s))
  unfolding space_count pick
  on-space e = rw (drop-cons s i 0 l, add-one, eq-eqb _ _ e)

  on-other : (get_or s i 0 ≡ 32 → ⊥) → space_count (drop i s) ≡ space_count (drop (i + 1) s)
  unfolding space_count pick
  on-other n = rw (drop-cons s i 0 l, add-one, ne_eqb _ _ n)

-- those from j on, which stands behind
behind : (s : List ℕ) (i j : ℕ) → i ≤ j → space_count (drop j s) ≤ space_count (drop i s)
behind s i j h = let e : i + (j - i) ≡ j = omega arith in rw (drop-drop (j - i) i s, e) at (fewer (j - i) (drop i s))

-- ---- the loop of `space_inside`: none between i and `stop`

module _ (s : List ℕ) (stop i : ℕ) (inv : space_count (drop i s) ≡ space_count (drop stop s)) where
  module _ (h : 2 < i) (l : i ≤ length s) where
    pub inside_found : get_or s (i - 1) 0 ≡ 32 → true ≡ ltb (space_count (drop stop s)) (space_count (drop 2 s))
    inside_found e =
        let z : i - 1 + 1 ≡ i = omega arith in
        sym (lt-ltb (space_count (drop stop s)) (space_count (drop 2 s)) (omega (arith, rw z at (on-space s (i - 1) (omega arith) e), behind s 2 (i - 1) (omega arith))))

    pub inside-next : (get_or s (i - 1) 0 ≡ 32 → ⊥) → space_count (drop (i - 1) s) ≡ space_count (drop stop s)
    inside-next n = let z : i - 1 + 1 ≡ i = omega arith in rw z at (on-other s (i - 1) (omega arith) n) ∙ inv

  pub inside-none : 2 ≤ i → i ≤ 2 → false ≡ ltb (space_count (drop stop s)) (space_count (drop 2 s))
  inside-none h k = let z : i ≡ 2 = omega arith in sym (le-ltb (space_count (drop stop s)) (space_count (drop 2 s)) (omega (arith, rw z at inv)))

-- ---- `third_space`

-- the test that goes before it
pub is-so : (s : List ℕ) (t : Bool) → t ≡ spaced s → t ≡ true → spaced s ≡ true
is-so s t g h = sym g ∙ h

module _ (s : List ℕ) (h : spaced s ≡ true) where
  spaced-long : 9 ≤ length s
  unfolding spaced
  spaced-long = ltb-false _ _ (pick-not _ _ h).0

  pub first-in : 0 < length s
  first-in = omega (arith, spaced-long)

  pub stop-above : 7 ≤ length s
  stop-above = omega (arith, spaced-long)

  pub stop-from : 2 ≤ length s - 7
  stop-from = omega (arith, spaced-long)

  pub stop-next : length s - 7 + 1 ≤ length s
  stop-next = omega (arith, spaced-long)

  second : get_or s 1 0 ≡ 32
  unfolding spaced
  second = eqb-true _ _ (pick-both _ _ (pick-not _ _ h).1).0

  seventh : get_or s (length s - 7) 0 ≡ 32
  unfolding spaced
  seventh = eqb-true _ _ (pick-both _ _ (pick-not _ _ h).1).1

  -- behind the second byte, and from the one before the last six
  from_second : space_count (drop 1 s) ≡ suc (space_count (drop 2 s))
  from_second = on-space s 1 (omega (arith, spaced-long)) second

  from-seventh : space_count (drop (length s - 7) s) ≡ suc (space_count (drop (length s - 7 + 1) s))
  from-seventh = on-space s (length s - 7) (omega (arith, spaced-long)) seventh

  whole : space_count (drop 1 s) ≤ space_count s
  whole = fewer 1 s

  module _ (t : Bool) (g : t ≡ ltb (space_count (drop (length s - 7) s)) (space_count (drop 2 s))) where
    pub third-inside : t ≡ true → true ≡ leb 3 (space_count s)
    third-inside y = sym (le-leb 3 (space_count s) (omega (arith, ltb-true (space_count (drop (length s - 7) s)) (space_count (drop 2 s)) (sym g ∙ y), from_second, from-seventh, whole)))

    module _ (n : t ≡ false) where
      same : space_count (drop 2 s) ≡ suc (space_count (drop (length s - 7 + 1) s))
      same = omega (arith, ltb-false (space_count (drop (length s - 7) s)) (space_count (drop 2 s)) (sym g ∙ n), from-seventh, behind s 2 (length s - 7) (omega (arith, spaced-long)))

      pub third-first : get_or s 0 0 ≡ 32 → true ≡ leb 3 (space_count s)
      third-first e = sym (le-leb 3 (space_count s) (omega (arith, rw drop-none at (on-space s 0 (omega (arith, spaced-long)) e), from_second, same)))

      pub third_last : (get_or s 0 0 ≡ 32 → ⊥) → (e : ℕ) → e ≡ length s - 7 + 1 + seek space (drop (length s - 7 + 1) s) → ltb e (length s) ≡ leb 3 (space_count s)
      third_last o e q =
          let f = rw drop-none at (on-other s 0 (omega (arith, spaced-long)) o) in
          let d = length-drop (length s - 7 + 1) s in
          let r : List ℕ = drop (length s - 7 + 1) s in
          by-lt e (length s)
          (λ l. lt-ltb e (length s) l ∙ sym (le-leb 3 (space_count s) (omega (arith, some r (omega arith), f, from_second, same))))
          (λ l. le-ltb e (length s) l ∙ sym (lt-leb 3 (space_count s) (omega (arith, none r (omega arith), f, from_second, same))))

pub ruleset inside = (inside_found, inside-next, inside-none)

pub ruleset places = (is-so, first-in, stop-above, stop-from, stop-next)

pub ruleset thirds = (third-inside, third-first, third_last)

-- The turns of the loops over a block and over blocks. Assumes nothing.
use mathlib.Core.Path.{◌≡◌, refl, sym, ap, ◌∙◌}
use mathlib.Core.Bool.{Bool, true, false, not}
use mathlib.Core.List.{List, [], ◌∷◌}
use Prim.Native.Nat.{ℕ, zero, suc, ◌+◌, ◌-◌, ◌≤◌, ◌<◌}
use native.Mathlib.Nat.{sub-zero, suc-sub-suc, zero-sub}
use native.Mathlib.Numerals.{add-one}
use native.Mathlib.Omega.{arith}
use lib.ListN.{length, get_or, take, drop, length-drop}
use lib.Seq.{drop-cons, drop-drop, get_or-drop, take_all, take-nil, take-suc}
use lib.Bits.{bit_xor, xor_zero_r, xor_self}
use lib.Dec.{ltb}
use borrow.Author.Tests.{lt-ltb, ltb-true, ne_eqb, le-leb, le-ltb, not-true}
use Rattle.base.specs.Pick.{pick}
use Rattle.base.specs.Seek.{all}
use Rattle.base.proofs.Cases.{pick-false}
use Rattle.base.proofs.Seek.{never, all_head, all_tail, all_drop, all_cons, all_append, all_weaker}
use Rattle.paper.specs.Bytes.{is_text, is_clean}
use Rattle.scan.specs.block.Blocks.{is_high, is_other, is_far, Skips}

-- ---- one byte

pub is-high : (x : ℕ) → 14 ≤ x → is_high x ≡ true
is-high x h = le-leb 14 x h

pub is-text : (x : ℕ) → 32 ≤ x → (x ≡ 127 → ⊥) → x < 256 → is_text x ≡ true
unfolding is_text pick
is-text x l n h = rw (le-ltb x 32 l, ne_eqb x 127 n, le-leb x 255 (omega arith))

pub is-clean : (x : ℕ) → (x ≡ 35 → ⊥) → (x ≡ 126 → ⊥) → is_clean x ≡ true
unfolding is_clean
is-clean x h t = pick-false _ _ (ne_eqb x 35 h) ∙ ap not (ne_eqb x 126 t)

pub is-other : (b x : ℕ) → (x ≡ b → ⊥) → is_other b x ≡ true
is-other b x n = simp (ne_eqb x b n)

pub is-far : (c w x : ℕ) → w < bit_xor x c → is_far c w x ≡ true
is-far c w x l = lt-ltb w (bit_xor x c) l

-- ---- a block: the first j bytes have passed the test, if the answer is still true

-- if t then p holds of the first j bytes at `at` of s
abbrev pub Passes : (ℕ → Bool) → List ℕ → ℕ → ℕ → Bool → Type 0
Passes p s at j t = t ≡ true → all p (take j (drop at s)) ≡ true

module _ (p : ℕ → Bool) (s : List ℕ) (at : ℕ) where
  pub pass-not : (j : ℕ) (t : Bool) → t ≡ false → Passes p s at j t
  pass-not j t f e = never (sym e ∙ f)

  -- u is the answer behind the turn
  pub pass-more : (j : ℕ) (t u : Bool) → u ≡ t → at + j < length s → Passes p s at j t → p (get_or s (at + j) 0) ≡ true → Passes p s at (j + 1) u
  unfolding all
  pass-more j t u k l h q e =
      let g : get_or (drop at s) j 0 ≡ get_or s (at + j) 0 = get_or-drop at s j 0 in
      rw (add-one, take-suc (drop at s) j 0 (omega (arith, length-drop at s)), g)
      (all_append p (take j (drop at s)) (get_or s (at + j) 0 ∷ []) (h (sym k ∙ e)) (all_cons p (get_or s (at + j) 0) [] q refl))

  -- w is the block's width
  pub pass-end : (w j : ℕ) (t : Bool) → j ≤ w → w ≤ j → Passes p s at j t → Passes p s at w t
  pass-end w j t m n h = let e : j ≡ w = omega arith in rw e at h

-- bytes that are neither `#` nor `~`
both-clean : (s : List ℕ) → all (is_other 35) s ≡ true → all (is_other 126) s ≡ true → all is_clean s ≡ true
unfolding all is_clean
both-clean [] h t = refl
both-clean (x ∷ s) h t =
    all_cons is_clean x s
    (pick-false _ _ (not-true _ (all_head (is_other 35) x s h)) ∙ all_head (is_other 126) x s t)
    (both-clean s (all_tail (is_other 35) x s h) (all_tail (is_other 126) x s t))

-- .. by two answers, the second of which is asked for where the first is true
pub clean-both : (s : List ℕ) (t u : Bool) → (t ≡ true → all (is_other 35) s ≡ true) → t ≡ true → (u ≡ true → all (is_other 126) s ≡ true)
    → u ≡ true → all is_clean s ≡ true
clean-both s t u h e k f = both-clean s (h e) (k f)

pub clean-not : (s : List ℕ) → false ≡ true → all is_clean s ≡ true
clean-not s e = never (sym e)

-- the last bytes of a text, if they reach back to a place
pub clean_end : (s : List ℕ) (from : ℕ) (t : Bool) → 64 ≤ length s → length s - 64 ≤ from
    → (t ≡ true → all is_clean (take 64 (drop (length s - 64) s)) ≡ true) → t ≡ true → all is_clean (drop from s) ≡ true
clean_end s from t l r h e =
    let at = length s - 64 in
    let k : at + (from - at) ≡ from = omega arith in
    let c : all is_clean (drop at s) ≡ true = rw (take_all 64 (drop at s) (omega (arith, length-drop at s))) at (h e) in
    rw (drop-drop (from - at) at s, k) at (all_drop is_clean (from - at) (drop at s) c)

pub ruleset cleans = (clean-both, clean-not)

-- ---- blocks

all_both : (p : ℕ → Bool) (k n : ℕ) (s : List ℕ) → all p (take k s) ≡ true → all p (take n (drop k s)) ≡ true → all p (take (k + n) s) ≡ true
unfolding all
all_both p zero n s h i = let z : 0 + n ≡ n = omega arith in rw z i
all_both p (suc k) n [] h i = let z : suc k + n ≡ suc (k + n) = omega arith in rw z refl
all_both p (suc k) n (x ∷ s) h i =
    let z : suc k + n ≡ suc (k + n) = omega arith in
    rw z (all_cons p x (take (k + n) s) (all_head p x (take k s) h) (all_both p k n s (all_tail p x (take k s) h) i))

-- behind the first k of n bytes that pass
all-part : (p : ℕ → Bool) (k n : ℕ) (s : List ℕ) → all p (take n s) ≡ true → all p (take (n - k) (drop k s)) ≡ true
unfolding all
all-part p zero n s h = rw (sub-zero n) h
all-part p (suc k) zero s h = rw (zero-sub (suc k)) refl
all-part p (suc k) (suc n) [] h = rw (take-nil (suc n - suc k)) refl
all-part p (suc k) (suc n) (x ∷ s) h = rw (suc-sub-suc n k) (all-part p k n s (all_tail p x (take n s) h))

module _ (p : ℕ → Bool) (s : List ℕ) (at : ℕ) where
  pub skip-none : at ≤ length s → Skips p s at at
  unfolding all
  skip-none h = let z : at - at ≡ 0 = omega arith in record { from = omega arith; inside = h; between = rw z refl }

  -- n bytes more
  skip_by : (i n : ℕ) → Skips p s at i → i + n ≤ length s → all p (take n (drop i s)) ≡ true → Skips p s at (i + n)
  skip_by i n k r h =
      let f = k.from in
      let l = k.inside in
      let m : i + n - at ≡ (i - at) + n = omega arith in
      let j : at + (i - at) ≡ i = omega arith in
      record {
        from = omega arith;
        inside = r;
        between = rw m (all_both p (i - at) n (drop at s) k.between (rw (drop-drop (i - at) at s, j) h));
      }

  -- on from where another left off
  pub skip-then : (i r : ℕ) → Skips p s at i → Skips p s i r → Skips p s at r
  skip-then i r k m =
      let f = m.from in
      let l = m.inside in
      let j : i + (r - i) ≡ r = omega arith in
      rw j at (skip_by i (r - i) k (omega arith) m.between)

  module _ (i : ℕ) (k : Skips p s at i) where
    -- w bytes at q, which may begin before i; t is the answer to the test
    pub skip-over : (q w : ℕ) (t : Bool) → q ≤ i → i < q + w → q + w ≤ length s → (t ≡ true → all p (take w (drop q s)) ≡ true) → t ≡ true → Skips p s at (q + w)
    skip-over q w t l r m h e =
        let j : i + (w - (i - q)) ≡ q + w = omega arith in
        let d : q + (i - q) ≡ i = omega arith in
        let a = all-part p (i - q) w (drop q s) (h e) in
        rw j at (skip_by i (w - (i - q)) k (omega arith) (rw (drop-drop (i - q) q s, d) at a))

    -- .. at i, where n bytes are left or more
    pub skip_block : (w n : ℕ) (t : Bool) → n ≤ length s - i → w ≤ n → (t ≡ true → all p (take w (drop i s)) ≡ true) → t ≡ true → Skips p s at (i + w)
    skip_block w n t r m h e = let l = k.inside in skip_by i w k (omega arith) (h e)

    -- one byte more
    pub near-one : i < length s → p (get_or s i 0) ≡ true → Skips p s at (i + 1)
    unfolding all
    near-one l h = skip_by i 1 k (omega arith) (rw (drop-cons s i 0 l) (all_cons p (get_or s i 0) [] h refl))

-- on, by bytes far from what ends lines, or from one byte
far-high : (x : ℕ) → is_far 0 13 x ≡ true → is_high x ≡ true
far-high x h = let l : 13 < x = rw (xor_zero_r x) at (ltb-true 13 (bit_xor x 0) h) in is-high x (omega arith)

far-other : (b x : ℕ) → is_far b 0 x ≡ true → is_other b x ≡ true
far-other b x h = is-other b x (λ e. never (sym h ∙ ap (λ (y : ℕ). ltb 0 (bit_xor y b)) e ∙ ap (ltb 0) (xor_self b)))

weaker : (p q : ℕ → Bool) → ((x : ℕ) → p x ≡ true → q x ≡ true) → (s : List ℕ) (at r : ℕ) → Skips p s at r → Skips q s at r
weaker p q h s at r k = record { from = k.from; inside = k.inside; between = all_weaker p q h (take (r - at) (drop at s)) k.between }

module _ (s : List ℕ) (at i r : ℕ) where
  pub near-high : Skips is_high s at i → Skips (is_far 0 13) s i r → Skips is_high s at r
  near-high k n = skip-then is_high s at i r k (weaker (is_far 0 13) is_high far-high s i r n)

  pub near-other : (b : ℕ) → Skips (is_other b) s at i → Skips (is_far b 0) s i r → Skips (is_other b) s at r
  near-other b k n = skip-then (is_other b) s at i r k (weaker (is_far b 0) (is_other b) (far-other b) s i r n)

pub ruleset skip-near = (near-high, near-other)

pub ruleset skips = (skip-none, skip_block, skip-over)

-- eight bytes, one after another: behind the first that pass
module _ (p : ℕ → Bool) (s : List ℕ) (at i : ℕ) (k : Skips p s at i) (l : 8 ≤ length s - i) (a : p (get_or s i 0) ≡ true) where
  pub near-1 : Skips p s at (i + 1)
  near-1 = near-one p s at i k (omega arith) a

  module _ (b : p (get_or s (i + 1) 0) ≡ true) where
    pub near-2 : Skips p s at (i + 2)
    near-2 = let z : i + 1 + 1 ≡ i + 2 = omega arith in rw z at (near-one p s at (i + 1) near-1 (omega arith) b)

    module _ (c : p (get_or s (i + 2) 0) ≡ true) where
      pub near-3 : Skips p s at (i + 3)
      near-3 = let z : i + 2 + 1 ≡ i + 3 = omega arith in rw z at (near-one p s at (i + 2) near-2 (omega arith) c)

      module _ (d : p (get_or s (i + 3) 0) ≡ true) where
        pub near-4 : Skips p s at (i + 4)
        near-4 = let z : i + 3 + 1 ≡ i + 4 = omega arith in rw z at (near-one p s at (i + 3) near-3 (omega arith) d)

        module _ (e : p (get_or s (i + 4) 0) ≡ true) where
          pub near-5 : Skips p s at (i + 5)
          near-5 = let z : i + 4 + 1 ≡ i + 5 = omega arith in rw z at (near-one p s at (i + 4) near-4 (omega arith) e)

          module _ (f : p (get_or s (i + 5) 0) ≡ true) where
            pub near-6 : Skips p s at (i + 6)
            near-6 = let z : i + 5 + 1 ≡ i + 6 = omega arith in rw z at (near-one p s at (i + 5) near-5 (omega arith) f)

            module _ (g : p (get_or s (i + 6) 0) ≡ true) where
              pub near-7 : Skips p s at (i + 7)
              near-7 = let z : i + 6 + 1 ≡ i + 7 = omega arith in rw z at (near-one p s at (i + 6) near-6 (omega arith) g)

              pub near-8 : p (get_or s (i + 7) 0) ≡ true → Skips p s at (i + 8)
              near-8 h = let z : i + 7 + 1 ≡ i + 8 = omega arith in rw z at (near-one p s at (i + 7) near-7 (omega arith) h)

pub ruleset nears = (skip-none, near-1, near-2, near-3, near-4, near-5, near-6, near-7, near-8, is-far)

-- ` NP:` looked for by its colon: the turns and the ways out of `find_mark`. Assumes nothing.
use mathlib.Core.Path.{◌≡◌, refl, sym, ap, ◌∙◌}
use mathlib.Core.Bool.{Bool, true, false}
use mathlib.Core.List.{List, [], ◌∷◌}
use Prim.Native.Nat.{ℕ, suc, ◌+◌, ◌-◌, ◌≤◌, ◌<◌}
use native.Mathlib.Omega.{arith}
use lib.Dec.{eqb}
use lib.ListN.{length, drop, length-drop}
use lib.Seq.{drop-drop}
use Rattle.base.specs.Pick.{pick}
use Rattle.base.specs.Seek.{starts, seek}
use Rattle.base.proofs.Cases.{by-test}
use Rattle.base.proofs.Seek.{seek-here, seek-next, seek-le}
use Rattle.paper.specs.Bytes.{mark}

abbrev colons : List ℕ
colons = 58 ∷ []

-- none stands where the fourth byte is no colon
no-mark : (x y z w : ℕ) (t : List ℕ) → eqb w 58 ≡ false → starts mark (x ∷ y ∷ z ∷ w ∷ t) ≡ false
unfolding starts pick
no-mark x y z w t n =
    by-test (eqb x 32)
    (λ e. by-test (eqb y 78) (λ f. by-test (eqb z 80) (λ g. simp (e, f, g, n)) (λ g. simp (e, f, g))) (λ f. simp (e, f))) (λ e. simp e)

-- nor in a text that is shorter than the pattern
starts-few : (ps s : List ℕ) → length s < length ps → starts ps s ≡ false
unfolding starts pick
starts-few [] s h = absurd (omega arith)
starts-few (p ∷ ps) [] h = refl
starts-few (p ∷ ps) (x ∷ s) h = by-test (eqb x p) (λ e. simp e (starts-few ps s (omega arith))) (λ e. simp e)

seek-cons : (ps : List ℕ) (x : ℕ) (s : List ℕ) → starts ps (x ∷ s) ≡ false → seek ps (x ∷ s) ≡ suc (seek ps s)
unfolding seek pick
seek-cons ps x s e = simp e

short : (s : List ℕ) → length s ≤ 3 → seek mark s ≡ length s
unfolding seek
short [] h = refl
short (x ∷ s) h = seek-cons mark x s (starts-few mark (x ∷ s) (omega arith)) ∙ ap suc (short s (omega arith))

colon-here : (w : ℕ) (t : List ℕ) → eqb w 58 ≡ true → seek colons (w ∷ t) ≡ 0
unfolding seek starts pick
colon-here w t e = simp e

colon-later : (w : ℕ) (t : List ℕ) → eqb w 58 ≡ false → seek colons (w ∷ t) ≡ suc (seek colons t)
unfolding starts pick
colon-later w t e = seek-cons colons w t (simp e)

-- the place three bytes ahead of the first colon behind the third byte: no mark stands before it
abbrev ToColon : List ℕ → Type 0
ToColon s = seek mark s ≡ seek colons (drop 3 s) + seek mark (drop (seek colons (drop 3 s)) s)

colon-step : (x y z w : ℕ) (t : List ℕ) → eqb w 58 ≡ false → ToColon (y ∷ z ∷ w ∷ t) → ToColon (x ∷ y ∷ z ∷ w ∷ t)
colon-step x y z w t e r = rw (seek-cons mark x (y ∷ z ∷ w ∷ t) (no-mark x y z w t e), colon-later w t e) (omega (arith, r))

colon-stop : (x y z w : ℕ) (t : List ℕ) → eqb w 58 ≡ true → ToColon (x ∷ y ∷ z ∷ w ∷ t)
colon-stop x y z w t e = rw (colon-here w t e) (omega arith)

colon-none : (x y z : ℕ) → ToColon (x ∷ y ∷ z ∷ [])
unfolding seek
colon-none x y z = omega arith

to-colon : (s : List ℕ) → 3 ≤ length s → ToColon s
to-colon [] h = absurd (omega arith)
to-colon (x ∷ []) h = absurd (omega arith)
to-colon (x ∷ y ∷ []) h = absurd (omega arith)
to-colon (x ∷ y ∷ z ∷ []) h = colon-none x y z
to-colon (x ∷ y ∷ z ∷ w ∷ t) h =
    by-test (eqb w 58) (colon-stop x y z w t) (λ e. colon-step x y z w t e (to-colon (y ∷ z ∷ w ∷ t) (omega arith)))

-- the state of the loop
abbrev pub Sought : List ℕ → ℕ → ℕ → Type 0
Sought s from i = (i ≤ length s) × (from + seek mark (drop from s) ≡ i + seek mark (drop i s))

module _ (s : List ℕ) (from i : ℕ) (inv : Sought s from i) where
  pub mark-short : length s - i ≤ 3 → length s ≡ from + seek mark (drop from s)
  mark-short h =
      let l = inv.0 in
      omega (arith, inv.1, short (drop i s) (omega (arith, length-drop i s)), length-drop i s)

  module _ (c : ℕ) (h : 3 < length s - i) (g : c ≡ i + 3 + seek colons (drop (i + 3) s)) where
    colon-within : c ≤ length s
    colon-within = let l = inv.0 in omega (arith, seek-le colons (drop (i + 3) s), length-drop (i + 3) s)

    -- at the place three bytes ahead of the colon
    at-colon : Sought s from (c - 3)
    at-colon =
        let l = inv.0 in
        let d : drop 3 (drop i s) ≡ drop (i + 3) s = drop-drop 3 i s in
        let k : ℕ = seek colons (drop (i + 3) s) in
        let e : seek mark (drop i s) ≡ k + seek mark (drop k (drop i s)) = rw d at (to-colon (drop i s) (omega (arith, length-drop i s))) in
        let j : i + k ≡ c - 3 = omega arith in
        let f : drop k (drop i s) ≡ drop (c - 3) s = drop-drop k i s ∙ ap (λ (n : ℕ). drop n s) j in
        let m : seek mark (drop i s) ≡ k + seek mark (drop (c - 3) s) = rw f at e in
        (omega (arith, colon-within), omega (arith, inv.1))

    pub mark-room : c - 3 ≤ length s
    mark-room = at-colon.0

    pub mark-none : c ≡ length s → c ≡ from + seek mark (drop from s)
    mark-none e = let l = at-colon.0 in omega (arith, at-colon.1, short (drop (c - 3) s) (omega (arith, length-drop (c - 3) s)), length-drop (c - 3) s)

    module _ (t : Bool) (u : t ≡ starts mark (drop (c - 3) s)) where
      within : c - 3 < length s
      within = omega (arith, colon-within)

      pub mark-here : t ≡ true → c - 3 ≡ from + seek mark (drop from s)
      mark-here e = sym (at-colon.1 ∙ seek-here mark s (c - 3) within (sym u ∙ e))

      pub mark-later : t ≡ false → Sought s from (c - 2)
      mark-later e =
          let j : c - 3 + 1 ≡ c - 2 = omega arith in
          (omega (arith, within), at-colon.1 ∙ rw j at (seek-next mark s (c - 3) within (sym u ∙ e)))

pub ruleset marks = (mark-short, mark-room, mark-none, mark-here, mark-later)

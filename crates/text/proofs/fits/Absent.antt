-- A byte that stands nowhere, and so no pattern that holds it; and texts by their length. Assumes nothing.
use mathlib.Core.Path.{◌≡◌, refl, sym, ap, ◌∙◌}
use mathlib.Core.Bool.{Bool, true, false, not}
use mathlib.Core.List.{List, [], ◌∷◌}
use Prim.Native.Nat.{ℕ, ◌+◌, ◌-◌, ◌≤◌, ◌<◌}
use native.Mathlib.Omega.{arith}
use lib.Dec.{eqb}
use lib.ListN.{length, drop, length-drop}
use borrow.Author.Tests.{eq-eqb, ne_eqb, eqb-true, eqb-false, lt-ltb, le-ltb}
use Rattle.base.specs.Pick.{pick}
use Rattle.base.specs.Seek.{all, starts, seek, Free}
use Rattle.base.proofs.Cases.{by-test, pick_true, pick-false}
use Rattle.base.proofs.Seek.{never, free-starts, free-tail, free-cons}
use Rattle.paper.specs.Bytes.{is_text, bar, mark}
use Rattle.paper.specs.Texts.{lacks, name_proper}

-- a text without the byte q does not begin with a pattern that holds q
starts-not : (q : ℕ) (ps s : List ℕ) → all (λ p. not (eqb p q)) ps ≡ false → Free (q ∷ []) s → starts ps s ≡ false
unfolding all starts pick
starts-not q [] s h f = never h
starts-not q (p ∷ ps) [] h f = refl
starts-not q (p ∷ ps) (x ∷ s) h f =
    by-test (eqb x p)
    (λ e. simp e (starts-not q ps s (simp (other e) at h) (free-tail (q ∷ []) x s f)))
    (λ e. simp e)
  where
    differs : eqb x q ≡ false
    differs = by-test (eqb x q) (λ e. never (simp e at (free-starts (q ∷ []) x s f))) (λ e. e)

    other : eqb x p ≡ true → eqb p q ≡ false
    other e = ap (λ (n : ℕ). eqb n q) (sym (eqb-true x p e)) ∙ differs

free-not : (q : ℕ) (ps s : List ℕ) → all (λ p. not (eqb p q)) ps ≡ false → Free (q ∷ []) s → Free ps s
unfolding seek
free-not q ps [] h f = refl
free-not q ps (x ∷ s) h f = free-cons ps x s (starts-not q ps (x ∷ s) h f) (free-not q ps s h (free-tail (q ∷ []) x s f))

-- no_bar: r is where the byte was found
pub bar-found : (s : List ℕ) (from r : ℕ) → from ≤ length s → r ≡ from + seek bar (drop from s) → eqb r (length s) ≡ lacks bar (drop from s)
unfolding lacks
bar-found s from r h e =
    let n : length (drop from s) ≡ length s - from = length-drop from s in
    by-test (eqb r (length s))
    (λ q. let z = eqb-true r (length s) q in q ∙ sym (eq-eqb (seek bar (drop from s)) (length (drop from s)) (omega arith)))
    (λ q. let z = eqb-false r (length s) q in q ∙ sym (ne_eqb (seek bar (drop from s)) (length (drop from s)) (λ g. z (omega arith))))

-- name_proper: by the length of what stands from a place on
module _ (s : List ℕ) (from : ℕ) where
  pub name-long : 35 < length s - from → false ≡ name_proper (drop from s)
  unfolding name_proper
  name-long l = sym (pick_true _ _ (lt-ltb 35 (length (drop from s)) (omega (arith, length-drop from s))))

  pub name-short : length s - from ≤ 35 → (r : Bool) → r ≡ all is_text (drop from s) → r ≡ name_proper (drop from s)
  unfolding name_proper
  name-short l r e = e ∙ sym (pick-false _ _ (le-ltb 35 (length (drop from s)) (omega (arith, length-drop from s))))

pub ruleset lengths = (name-long, name-short)

-- no_mark: `:` was found nowhere
pub mark-none : (s : List ℕ) (r : ℕ) → r ≡ 0 + seek (58 ∷ []) (drop 0 s) → r ≡ length s → true ≡ lacks mark s
unfolding lacks all pick
mark-none s r e l = sym (eq-eqb (seek mark s) (length s) (free-not 58 mark s refl (omega arith)))

pub ruleset absent = (bar-found, mark-none)

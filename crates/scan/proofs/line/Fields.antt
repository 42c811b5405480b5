-- The fields and the spaces of a line. Assumes nothing.
use mathlib.Core.Path.{◌≡◌, sym, ◌∙◌}
use mathlib.Core.List.{List}
use Prim.Native.Nat.{ℕ, suc, ◌+◌, ◌≤◌, ◌<◌}
use native.Mathlib.Numerals.{add-one}
use native.Mathlib.Omega.{arith}
use lib.Dec.{eqb}
use lib.ListN.{length, get_or, drop, drop_of_length-le}
use lib.Seq.{drop-cons}
use borrow.Author.Tests.{eq-eqb, ne_eqb}
use Rattle.base.specs.Pick.{pick}
use Rattle.base.specs.Seek.{starts, seek}
use Rattle.base.proofs.Cases.{by-test}
use Rattle.base.proofs.Seek.{seek-here, seek-next, seek-end, seek-within}
use Rattle.paper.specs.Bytes.{space}
use Rattle.paper.specs.GroupLine.{space_count}

-- ---- what `field_end` finds: at e the field ends, and the rest begins

module _ (s : List ℕ) (at e : ℕ) (h : e ≡ at + seek space (drop at s)) where
  pub end-within : at ≤ length s → e ≤ length s
  end-within l = rw h (seek-within space s at l)

-- ---- its loop

starts-space : (s : List ℕ) (i : ℕ) → i < length s → starts space (drop i s) ≡ eqb (get_or s i 0) 32
unfolding starts pick
starts-space s i l = rw (drop-cons s i 0 l) (by-test (eqb (get_or s i 0) 32) (λ e. simp e) (λ e. simp e))

module _ (s : List ℕ) (at i : ℕ) (inv : at + seek space (drop at s) ≡ i + seek space (drop i s)) where
  pub hit : i < length s → get_or s i 0 ≡ 32 → i ≡ at + seek space (drop at s)
  hit l e = sym (inv ∙ seek-here space s i l (starts-space s i l ∙ eq-eqb _ _ e))

  pub miss : i < length s → (get_or s i 0 ≡ 32 → ⊥) → at + seek space (drop at s) ≡ i + 1 + seek space (drop (i + 1) s)
  miss l n = inv ∙ seek-next space s i l (starts-space s i l ∙ ne_eqb _ _ n)

  pub past : i ≤ length s → length s ≤ i → length s ≡ at + seek space (drop at s)
  past k h = let e : length s ≡ i = omega arith in e ∙ sym (inv ∙ seek-end space s i h)

pub ruleset turns = (hit, miss, past)

-- ---- the spaces of a line, n of them before i

module _ (s : List ℕ) (n i : ℕ) (inv : space_count s ≡ n + space_count (drop i s)) where
  step : i < length s → space_count s ≡ n + pick (eqb (get_or s i 0) 32) (suc (space_count (drop (i + 1) s))) (space_count (drop (i + 1) s))
  unfolding space_count
  step l = inv ∙ rw (drop-cons s i 0 l, add-one)

  pub count-space : i < length s → get_or s i 0 ≡ 32 → space_count s ≡ n + 1 + space_count (drop (i + 1) s)
  unfolding pick
  count-space l e = let h = rw (eq-eqb _ _ e) at (step l) in omega arith

  pub count-other : i < length s → (get_or s i 0 ≡ 32 → ⊥) → space_count s ≡ n + space_count (drop (i + 1) s)
  unfolding pick
  count-other l e = let h = rw (ne_eqb _ _ e) at (step l) in omega arith

  pub count-end : length s ≤ i → n ≡ space_count s
  unfolding space_count
  count-end h = sym (inv ∙ rw (drop_of_length-le s h) (omega arith))

pub ruleset counts = (count-space, count-other, count-end)

-- The turn and the ways out of a loop that looks for a byte. Assumes nothing.
use mathlib.Core.Path.{◌≡◌, sym, ◌∙◌}
use mathlib.Core.Bool.{true, false}
use mathlib.Core.List.{List, [], ◌∷◌}
use Prim.Native.Nat.{ℕ, ◌+◌, ◌≤◌, ◌<◌}
use native.Mathlib.Omega.{arith}
use lib.Dec.{eqb}
use lib.ListN.{length, get_or, drop}
use lib.Seq.{drop-cons}
use borrow.Author.Tests.{eq-eqb, ne_eqb}
use Rattle.base.specs.Pick.{pick}
use Rattle.base.specs.Seek.{starts, seek}
use Rattle.base.proofs.Seek.{seek-here, seek-next, seek-end}

-- a pattern of one byte stands where that byte does
pub starts-byte : (b : ℕ) (s : List ℕ) (i : ℕ) → i < length s → starts (b ∷ []) (drop i s) ≡ pick (eqb (get_or s i 0) b) true false
unfolding starts
starts-byte b s i h = rw (drop-cons s i 0 h)

module _ (s : List ℕ) (from i b : ℕ) (inv : from + seek (b ∷ []) (drop from s) ≡ i + seek (b ∷ []) (drop i s)) where
  pub hit : i < length s → get_or s i 0 ≡ b → i ≡ from + seek (b ∷ []) (drop from s)
  unfolding pick
  hit h e = sym (inv ∙ seek-here (b ∷ []) s i h (starts-byte b s i h ∙ simp (eq-eqb _ _ e)))

  pub miss : i < length s → (get_or s i 0 ≡ b → ⊥) → from + seek (b ∷ []) (drop from s) ≡ i + 1 + seek (b ∷ []) (drop (i + 1) s)
  unfolding pick
  miss h e = inv ∙ seek-next (b ∷ []) s i h (starts-byte b s i h ∙ simp (ne_eqb _ _ e))

  pub past : i ≤ length s → length s ≤ i → length s ≡ from + seek (b ∷ []) (drop from s)
  past k h = let e : length s ≡ i = omega arith in e ∙ sym (inv ∙ seek-end (b ∷ []) s i h)

pub ruleset turns = (hit, miss, past)

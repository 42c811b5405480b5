-- The turns and the ways out of the loops that look for a byte or a pattern. Assumes nothing.
use mathlib.Core.Path.{◌≡◌, sym, ◌∙◌}
use mathlib.Core.Bool.{Bool, true, false}
use mathlib.Core.List.{List}
use Prim.Native.Nat.{ℕ, ◌+◌, ◌-◌, ◌≤◌, ◌<◌}
use native.Mathlib.Nat.{add-zero, add_assoc}
use native.Mathlib.Numerals.{add-one}
use native.Mathlib.Omega.{arith}
use lib.Dec.{eqb}
use lib.ListN.{length, get_or, drop, drop_of_length-le}
use lib.Seq.{drop-cons}
use borrow.Author.Tests.{eq-eqb, ne_eqb, le-leb, lt-ltb, le-ltb}
use Rattle.base.specs.Pick.{pick}
use Rattle.base.specs.Seek.{all, starts, seek}
use Rattle.base.proofs.Seek.{seek-here, seek-next, seek-end}
use Rattle.paper.specs.Bytes.{is_text, is_clean}
use Rattle.paper.specs.Texts.{lacks}
use Rattle.scan.proofs.block.Turns.{is-clean}

-- is_text
module _ (b : ℕ) where
  pub text-low : b < 32 → false ≡ is_text b
  unfolding is_text pick
  text-low h = rw (lt-ltb b 32 h)

  pub text-del : b ≡ 127 → false ≡ is_text b
  unfolding is_text pick
  text-del h = rw h

  pub text-yes : 32 ≤ b → (b ≡ 127 → ⊥) → b < 256 → true ≡ is_text b
  unfolding is_text pick
  text-yes l n h = rw (le-ltb b 32 l, ne_eqb b 127 n, le-leb b 255 (omega arith))

pub ruleset texts = (text-low, text-del, text-yes)

-- is_clean
module _ (b : ℕ) where
  pub clean-hash : b ≡ 35 → false ≡ is_clean b
  unfolding is_clean pick
  clean-hash h = rw h

  pub clean-tilde : b ≡ 126 → false ≡ is_clean b
  unfolding is_clean pick
  clean-tilde h = rw h

  pub clean-yes : (b ≡ 35 → ⊥) → (b ≡ 126 → ⊥) → true ≡ is_clean b
  clean-yes h t = sym (is-clean b h t)

pub ruleset cleans = (clean-hash, clean-tilde, clean-yes)

-- all_clean: one look told
pub told : (p : ℕ → Bool) (s : List ℕ) (t : Bool) → (t ≡ true → all p s ≡ true) → t ≡ true → true ≡ all p s
told p s t h e = sym (h e)

-- all_text and all_clean: t is what the test p of one byte answered
module _ (p : ℕ → Bool) (s : List ℕ) (from i : ℕ) (inv : all p (drop from s) ≡ all p (drop i s)) where
  module _ (h : i < length s) (t : Bool) (g : t ≡ p (get_or s i 0)) where
    pub all-on : t ≡ true → all p (drop from s) ≡ all p (drop (i + 1) s)
    unfolding all pick
    all-on e = inv ∙ rw (drop-cons s i 0 h, ← g, e, add-one)

    pub all-out : t ≡ false → false ≡ all p (drop from s)
    unfolding all pick
    all-out e = sym (inv ∙ rw (drop-cons s i 0 h, ← g, e))

  pub all_past : length s ≤ i → true ≡ all p (drop from s)
  unfolding all
  all_past h = sym (inv ∙ rw (drop_of_length-le s h))

pub ruleset alls = (all-on, all-out, all_past)

-- starts_at
pub starts_first : (pat s : List ℕ) (at : ℕ) → starts pat (drop at s) ≡ starts (drop 0 pat) (drop (at + 0) s)
starts_first pat s at = rw add-zero

module _ (pat s : List ℕ) (at rest j : ℕ) (r : rest ≡ length s - at) (inv : starts pat (drop at s) ≡ starts (drop j pat) (drop (at + j) s)) where
  module _ (h : j < length pat) where
    pub starts-short : at ≤ length s → rest ≤ j → false ≡ starts pat (drop at s)
    unfolding starts
    starts-short a l =
        let k : length s ≤ at + j = omega arith in
        sym (inv ∙ rw (drop-cons pat j 0 h, drop_of_length-le s k))

    module _ (l : j < rest) where
      within : at + j < length s
      within = omega arith

      pub starts-unlike : (get_or s (at + j) 0 ≡ get_or pat j 0 → ⊥) → false ≡ starts pat (drop at s)
      unfolding starts pick
      starts-unlike e = sym (inv ∙ rw (drop-cons pat j 0 h, drop-cons s (at + j) 0 within) (simp (ne_eqb _ _ e)))

      pub starts-on : get_or s (at + j) 0 ≡ get_or pat j 0 → starts pat (drop at s) ≡ starts (drop (j + 1) pat) (drop (at + (j + 1)) s)
      unfolding starts pick
      starts-on e = inv ∙ rw (drop-cons pat j 0 h, drop-cons s (at + j) 0 within, ← add_assoc, add-one, add-one) (simp (eq-eqb _ _ e))

  pub starts-past : length pat ≤ j → true ≡ starts pat (drop at s)
  unfolding starts
  starts-past h = sym (inv ∙ rw (drop_of_length-le pat h))

pub ruleset begins = (starts_first, starts-short, starts-unlike, starts-on, starts-past)

-- find: t is what starts_at answered
module _ (pat s : List ℕ) (from i : ℕ) (inv : from + seek pat (drop from s) ≡ i + seek pat (drop i s)) where
  module _ (h : i < length s) (t : Bool) (g : t ≡ starts pat (drop i s)) where
    pub seek_hit : t ≡ true → i ≡ from + seek pat (drop from s)
    seek_hit e = sym (inv ∙ seek-here pat s i h (sym g ∙ e))

    pub seek-miss : t ≡ false → from + seek pat (drop from s) ≡ i + 1 + seek pat (drop (i + 1) s)
    seek-miss e = inv ∙ seek-next pat s i h (sym g ∙ e)

  pub seek-past : i ≤ length s → length s ≤ i → length s ≡ from + seek pat (drop from s)
  seek-past k h = let e : length s ≡ i = omega arith in e ∙ sym (inv ∙ seek-end pat s i h)

pub ruleset seeks = (seek_hit, seek-miss, seek-past)

-- lacks_pattern: e is what find answered
module _ (pat s : List ℕ) (e : ℕ) (g : e ≡ 0 + seek pat s) where
  pub lacks-told : eqb e (length s) ≡ lacks pat s
  unfolding lacks
  lacks-told = let z : e ≡ seek pat s = omega arith in rw z

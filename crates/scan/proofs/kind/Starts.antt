-- The kind of a line by its first bytes, one law for each way through the code. Assumes nothing.
use mathlib.Core.Path.{◌≡◌, refl, sym, ap, ◌∙◌}
use mathlib.Core.Bool.{Bool, true, false}
use mathlib.Core.List.{List, [], ◌∷◌}
use Prim.Native.Nat.{ℕ, ◌≤◌, ◌<◌}
use native.Mathlib.Omega.{arith}
use lib.Dec.{eqb}
use lib.ListN.{length, get_or}
use borrow.Author.Tests.{ne_eqb}
use Rattle.base.specs.Pick.{pick}
use Rattle.base.specs.Seek.{starts}
use Rattle.base.proofs.Cases.{by-test, pick_same as same}
use Rattle.paper.specs.Entries.{Kind, head_line, file_line, group_line, item_line, group_end, file_end, kind_of}

-- a test that is decided, whose two answers are the same, or that is its own answer
yes : {A : Type 0} (a b : A) → pick true a b ≡ a
unfolding pick
yes a b = refl

not : {A : Type 0} (a b : A) → pick false a b ≡ b
unfolding pick
not a b = refl

as_is : (t : Bool) → pick t true false ≡ t
unfolding pick
as_is true = refl
as_is false = refl

-- ---- items

-- a line of fewer than two bytes
pub kind-short : (s : List ℕ) → length s < 2 → item_line ≡ kind_of s
unfolding kind_of starts
kind-short [] l = simp (same, yes, not)
kind-short (a ∷ []) l = simp (same, yes, not)
kind-short (a ∷ b ∷ s) l = absurd (omega arith)

-- neither H, nor a space, nor a plus stands second
pub kind-other : (s : List ℕ) → (get_or s 1 0 ≡ 72 → ⊥) → (get_or s 1 0 ≡ 32 → ⊥) → (get_or s 1 0 ≡ 43 → ⊥) → item_line ≡ kind_of s
unfolding kind_of starts
kind-other [] h i j = simp (same, yes, not)
kind-other (a ∷ []) h i j = simp (same, yes, not)
kind-other (a ∷ b ∷ s) h i j = simp (ne_eqb b 72 h, ne_eqb b 32 i, ne_eqb b 43 j, same, yes, not)

pub kind-high : (s : List ℕ) → 43 < get_or s 1 0 → (get_or s 1 0 ≡ 72 → ⊥) → item_line ≡ kind_of s
kind-high s l h = kind-other s h (λ e. absurd (omega arith)) (λ e. absurd (omega arith))

pub kind-low : (s : List ℕ) → get_or s 1 0 ≤ 43 → (get_or s 1 0 ≡ 32 → ⊥) → (get_or s 1 0 ≡ 43 → ⊥) → item_line ≡ kind_of s
kind-low s l i j = kind-other s (λ e. absurd (omega arith)) i j

-- ---- H stands second: the rest of `UHL1` decides

unfoldable pub by_head : List ℕ → Kind
by_head s = pick (eqb (get_or s 0 0) 85) (pick (eqb (get_or s 2 0) 76) (pick (eqb (get_or s 3 0) 49) head_line item_line) item_line) item_line

head_first : (s : List ℕ) → get_or s 1 0 ≡ 72 → by_head s ≡ kind_of s
unfolding kind_of starts by_head
head_first [] h = absurd (omega arith)
head_first (a ∷ []) h = absurd (omega arith)
head_first (a ∷ b ∷ []) h = simp (h, same, yes, not)
head_first (a ∷ b ∷ c ∷ []) h = simp (h, same, yes, not)
head_first (a ∷ b ∷ c ∷ d ∷ s) h =
    by-test (eqb a 85)
    (λ e. by-test (eqb c 76) (λ f. by-test (eqb d 49) (λ g. simp (h, e, f, g, yes, not, same)) (λ g. simp (h, e, f, g, yes, not, same))) (λ f. simp (h, e, f, yes, not, same)))
    (λ e. simp (h, e, yes, not, same))

pub kind-head : (r : Kind) (s : List ℕ) → get_or s 1 0 ≡ 72 → r ≡ by_head s → r ≡ kind_of s
kind-head r s h e = e ∙ head_first s h

-- the line is too short for `UHL1`
pub head-short : (r : Kind) (s : List ℕ) → length s < 4 → r ≡ item_line → r ≡ by_head s
unfolding by_head
head-short r [] l e = e ∙ simp (same, not)
head-short r (a ∷ []) l e = e ∙ simp (same, not)
head-short r (a ∷ b ∷ []) l e = e ∙ simp (same, not)
head-short r (a ∷ b ∷ c ∷ []) l e = e ∙ simp (same, not)
head-short r (a ∷ b ∷ c ∷ d ∷ s) l e = absurd (omega arith)

-- ---- a space or a plus stands second: the first byte decides

unfoldable pub by_space : ℕ → Kind
by_space a = pick (eqb a 49) file_line (pick (eqb a 50) group_line (pick (eqb a 51) group_end (pick (eqb a 53) file_end item_line)))

unfoldable pub by_plus : ℕ → Kind
by_plus a = pick (eqb a 51) group_end (pick (eqb a 53) file_end item_line)

space-first : (s : List ℕ) → get_or s 1 0 ≡ 32 → by_space (get_or s 0 0) ≡ kind_of s
unfolding kind_of starts by_space
space-first [] h = absurd (omega arith)
space-first (a ∷ []) h = absurd (omega arith)
space-first (a ∷ b ∷ s) h = simp (h, as_is, same, yes, not)

plus-first : (s : List ℕ) → get_or s 1 0 ≡ 43 → by_plus (get_or s 0 0) ≡ kind_of s
unfolding kind_of starts by_plus
plus-first [] h = absurd (omega arith)
plus-first (a ∷ []) h = absurd (omega arith)
plus-first (a ∷ b ∷ s) h = simp (h, as_is, same, yes, not)

module _ (r : Kind) (s : List ℕ) where
  pub kind-space : get_or s 1 0 ≡ 32 → (a : ℕ) → get_or s 0 0 ≡ a → r ≡ by_space a → r ≡ kind_of s
  kind-space h a e f = f ∙ ap by_space (sym e) ∙ space-first s h

  pub kind-plus : get_or s 1 0 ≡ 43 → (a : ℕ) → get_or s 0 0 ≡ a → r ≡ by_plus a → r ≡ kind_of s
  kind-plus h a e f = f ∙ ap by_plus (sym e) ∙ plus-first s h

pub space-other : (s : List ℕ) → get_or s 1 0 ≡ 32 → (get_or s 0 0 ≡ 49 → ⊥) → (get_or s 0 0 ≡ 50 → ⊥) → (get_or s 0 0 ≡ 51 → ⊥) → (get_or s 0 0 ≡ 53 → ⊥) → item_line ≡ kind_of s
unfolding by_space pick
space-other s h i j k l = rw (ne_eqb _ _ i, ne_eqb _ _ j, ne_eqb _ _ k, ne_eqb _ _ l) at (space-first s h)

pub plus-other : (s : List ℕ) → get_or s 1 0 ≡ 43 → (get_or s 0 0 ≡ 51 → ⊥) → (get_or s 0 0 ≡ 53 → ⊥) → item_line ≡ kind_of s
unfolding by_plus pick
plus-other s h k l = rw (ne_eqb _ _ k, ne_eqb _ _ l) at (plus-first s h)

pub ruleset kinds = (kind-short, kind-high, kind-low, kind-head, head-short, kind-space, kind-plus, space-other, plus-other)

-- A field at its place: its digits, its one byte, its posting code; rules for a search. Assumes nothing.
use mathlib.Core.Path.{◌≡◌, refl, sym, ◌∙◌}
use mathlib.Core.List.{List, [], ◌∷◌}
use Prim.Native.Nat.{ℕ, ◌+◌, ◌-◌, ◌≤◌}
use native.Mathlib.Omega.{arith}
use lib.ListN.{length, get_or, take, drop}
use lib.Seq.{drop-cons}
use borrow.Author.Tests.{ne_eqb}
use Rattle.base.specs.Pick.{pick}
use Rattle.paper.specs.Read.{Field, value, fault}
use Rattle.paper.specs.Numerals.{digits}
use Rattle.gpc.specs.Parts.{slice}
use Rattle.gpc.specs.Turnovers.{is_code}
use Rattle.gpc.specs.Records.{read_code}

-- ---- `digits_at`

pub digits-said : (r : Field ℕ) (s : List ℕ) (at k : ℕ) → r ≡ digits k k (take (at + k - at) (drop at s)) → r ≡ digits k k (slice at k s)
digits-said r s at k e =
    let n : at + k - at ≡ k = omega arith in
    rw n at e

-- ---- one byte

pub one_byte : (s : List ℕ) (at : ℕ) → at + 1 ≤ length s → slice at 1 s ≡ get_or s at 0 ∷ []
one_byte s at h = rw (drop-cons s at 0 (omega arith)) refl

-- ---- `read_code`

module _ (s : List ℕ) (at : ℕ) (inside : at + 1 ≤ length s) where
  code_by : (x : ℕ) → get_or s at 0 ≡ x → read_code (slice at 1 s) ≡ read_code (x ∷ [])
  code_by x e = rw (one_byte s at inside, e) refl

  pub code-1 : get_or s at 0 ≡ 49 → value 1 ≡ read_code (slice at 1 s)
  unfolding read_code is_code pick
  code-1 e = sym (code_by 49 e)

  pub code-2 : get_or s at 0 ≡ 50 → value 2 ≡ read_code (slice at 1 s)
  unfolding read_code is_code pick
  code-2 e = sym (code_by 50 e)

  pub code-4 : get_or s at 0 ≡ 52 → value 4 ≡ read_code (slice at 1 s)
  unfolding read_code is_code pick
  code-4 e = sym (code_by 52 e)

  pub code-5 : get_or s at 0 ≡ 53 → value 5 ≡ read_code (slice at 1 s)
  unfolding read_code is_code pick
  code-5 e = sym (code_by 53 e)

  pub code_other : (get_or s at 0 ≡ 49 → ⊥) → (get_or s at 0 ≡ 50 → ⊥) → (get_or s at 0 ≡ 52 → ⊥) → (get_or s at 0 ≡ 53 → ⊥) → fault 51 ≡ read_code (slice at 1 s)
  unfolding read_code is_code pick
  code_other a b c d =
      let x = get_or s at 0 - 48 in
      sym
      (code_by (get_or s at 0) refl
      ∙ simp (ne_eqb x 1 (λ e. a (omega arith)), ne_eqb x 2 (λ e. b (omega arith)), ne_eqb x 4 (λ e. c (omega arith)), ne_eqb x 5 (λ e. d (omega arith))))

pub ruleset fields = (digits-said, code-1, code-2, code-4, code-5, code_other)

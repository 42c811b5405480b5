-- How long a text is. Assumes nothing.
use mathlib.Core.Path.{◌≡◌, sym, ap, ◌∙◌}
use mathlib.Core.Bool.{Bool, true, false}
use mathlib.Core.List.{List, [], ◌∷◌}
use Prim.Native.Nat.{ℕ, suc, ◌+◌}
use native.Mathlib.Omega.{arith}
use lib.ListN.{length, length-append}
use Rattle.base.proofs.Cases.{pick_true, pick-false}
use Rattle.sheet.specs.declared.Style.{Style}
use Rattle.paper.specs.Bytes.{null}
use Rattle.paper.specs.Texts.{join_on, joined, trim, spell_name, spell_text}
use Rattle.text.specs.extent.Four.{four}
use Rattle.text.proofs.extent.Parts.{none_left, keep_one, trim-four, trim-three, trim-two, trim-one, only-is, marked-is, name-some}

pub length-join : (a b : List ℕ) (bs : List (List ℕ)) → length (join_on a (b ∷ bs)) ≡ length a + suc (length (join_on b bs))
unfolding join_on
length-join a b bs = length-append a (124 ∷ join_on b bs)

-- parts_len
module _ (a b c d : List ℕ) where
  pub long-four : (length d ≡ 0 → ⊥) → length a + 1 + length b + 1 + length c + 1 + length d ≡ length (joined (trim (four a b c d)))
  unfolding joined join_on
  long-four h = rw (trim-four a b c d h) (omega (arith, length-join a b (c ∷ d ∷ []), length-join b c (d ∷ []), length-join c d []))

  module _ (e : length d ≡ 0) where
    pub long-three : (length c ≡ 0 → ⊥) → length a + 1 + length b + 1 + length c ≡ length (joined (trim (four a b c d)))
    unfolding joined join_on
    long-three h = rw (trim-three a b c d e h) (omega (arith, length-join a b (c ∷ []), length-join b c []))

    module _ (f : length c ≡ 0) where
      pub long-two : (length b ≡ 0 → ⊥) → length a + 1 + length b ≡ length (joined (trim (four a b c d)))
      unfolding joined join_on
      long-two h = rw (trim-two a b c d e f h) (omega (arith, length-join a b []))

      pub long-one : length b ≡ 0 → length a ≡ length (joined (trim (four a b c d)))
      long-one g = rw (trim-one a b c d e f g, keep_one a)

pub ruleset lens = (long-four, long-three, long-two, long-one)

-- name_len
pub long-name : (n : List ℕ) → (length n ≡ 0 → ⊥) → 4 + length n ≡ length (spell_name n)
long-name n h = rw (name-some n h) (omega arith)

pub short-name : (n : List ℕ) → length n ≡ 0 → 0 ≡ length (spell_name n)
unfolding spell_name
short-name n h = rw (none_left n h)

pub ruleset names = (long-name, short-name)

-- text_len: t is what no_parts answered, i and j what parts_len and name_len did
module _ (y : Style) (ps : List (List ℕ)) (n : List ℕ) where
  pub long-only : y.av ≡ true → (t : Bool) → t ≡ null (trim ps) → t ≡ true → 3 + length n ≡ length (spell_text y ps n)
  unfolding spell_text
  long-only e t g f = sym (ap length (pick_true _ _ e ∙ only-is (trim ps) n (sym g ∙ f)) ∙ omega arith)

  pub long-marked : y.av ≡ true → (t : Bool) → t ≡ null (trim ps) → t ≡ false → (i j : ℕ) → i ≡ length (joined (trim ps)) → j ≡ length (spell_name n) → 3 + i + j ≡ length (spell_text y ps n)
  unfolding spell_text
  long-marked e t g f i j h k =
      sym (ap length (pick_true _ _ e ∙ marked-is (trim ps) n (sym g ∙ f)) ∙ omega (arith, length-append (joined (trim ps)) (spell_name n)))

  pub long-plain : y.av ≡ false → (i : ℕ) → i ≡ length (joined (trim ps)) → i ≡ length (spell_text y ps n)
  unfolding spell_text
  long-plain e i h = h ∙ sym (ap length (pick-false _ _ e))

pub ruleset longs = (long-only, long-marked, long-plain)

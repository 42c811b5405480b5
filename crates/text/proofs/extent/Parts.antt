-- Four parts, trimmed: which ones stay, told by their lengths. Assumes nothing.
use mathlib.Core.Path.{◌≡◌, refl, sym}
use mathlib.Core.Bool.{Bool, true, false}
use mathlib.Core.List.{List, [], ◌∷◌, ◌++◌}
use Prim.Native.Nat.{ℕ, suc}
use native.Mathlib.Omega.{arith}
use lib.Dec.{eqb}
use lib.ListN.{length}
use borrow.Author.Tests.{ne_eqb}
use Rattle.base.specs.Pick.{pick}
use Rattle.base.proofs.Seek.{never}
use Rattle.paper.specs.Bytes.{null, av, np, mark}
use Rattle.paper.specs.Texts.{join_on, joined, trim, keep, spell_name, spell_marked, no_text}
use Rattle.paper.proofs.Lists.{empty-null}
use Rattle.text.specs.extent.Four.{four}

pub none_left : (p : List ℕ) → length p ≡ 0 → p ≡ []
none_left [] h = refl
none_left (x ∷ p) h = absurd (omega arith)

keep_some : (p q : List ℕ) (qs : List (List ℕ)) → keep p (q ∷ qs) ≡ p ∷ q ∷ qs
unfolding keep
keep_some [] q qs = refl
keep_some (x ∷ p) q qs = refl

keep-last : (p : List ℕ) → (length p ≡ 0 → ⊥) → keep p [] ≡ p ∷ []
unfolding keep
keep-last [] h = absurd (h refl)
keep-last (x ∷ p) h = refl

pub keep_one : (p : List ℕ) → joined (keep p []) ≡ p
unfolding keep joined join_on
keep_one [] = refl
keep_one (x ∷ p) = refl

keep-none : (p : List ℕ) → eqb (length p) 0 ≡ null (keep p [])
unfolding keep null
keep-none [] = refl
keep-none (x ∷ p) = ne_eqb (suc (length p)) 0 (λ e. absurd (omega arith))

module _ (a b c d : List ℕ) where
  pub trim-four : (length d ≡ 0 → ⊥) → trim (four a b c d) ≡ four a b c d
  unfolding trim
  trim-four h = rw (keep-last d h, keep_some c d [], keep_some b c (d ∷ []), keep_some a b (c ∷ d ∷ []))

  module _ (e : length d ≡ 0) where
    pub trim-three : (length c ≡ 0 → ⊥) → trim (four a b c d) ≡ a ∷ b ∷ c ∷ []
    unfolding trim keep
    trim-three h = rw (none_left d e, keep-last c h, keep_some b c [], keep_some a b (c ∷ []))

    module _ (f : length c ≡ 0) where
      pub trim-two : (length b ≡ 0 → ⊥) → trim (four a b c d) ≡ a ∷ b ∷ []
      unfolding trim keep
      trim-two h = rw (none_left d e, none_left c f, keep-last b h, keep_some a b [])

      pub trim-one : length b ≡ 0 → trim (four a b c d) ≡ keep a []
      unfolding trim keep
      trim-one h = rw (none_left d e, none_left c f, none_left b h)

  -- no_parts
  pub none-four : (length d ≡ 0 → ⊥) → false ≡ null (trim (four a b c d))
  unfolding null
  none-four h = rw (trim-four h)

  pub none-three : length d ≡ 0 → (length c ≡ 0 → ⊥) → false ≡ null (trim (four a b c d))
  unfolding null
  none-three e h = rw (trim-three e h)

  pub none-two : length d ≡ 0 → length c ≡ 0 → (length b ≡ 0 → ⊥) → false ≡ null (trim (four a b c d))
  unfolding null
  none-two e f h = rw (trim-two e f h)

  pub none-one : length d ≡ 0 → length c ≡ 0 → length b ≡ 0 → eqb (length a) 0 ≡ null (trim (four a b c d))
  none-one e f h = rw (trim-one e f h) (keep-none a)

pub ruleset nones = (none-four, none-three, none-two, none-one)

-- no_text: t is what no_parts answered
module _ (ps : List (List ℕ)) (n : List ℕ) (t : Bool) (g : t ≡ null (trim ps)) where
  pub text-none : t ≡ true → eqb (length n) 0 ≡ no_text ps n
  unfolding no_text pick
  text-none e = rw (← g, e) (empty-null n)

  pub text-some : t ≡ false → false ≡ no_text ps n
  unfolding no_text pick
  text-some e = rw (← g, e)

pub ruleset untexts = (text-none, text-some)

-- a text with and without parts, told by the same test
pub only-is : (qs : List (List ℕ)) (n : List ℕ) → null qs ≡ true → spell_marked qs n ≡ np ++ n
unfolding spell_marked null
only-is [] n e = refl
only-is (q ∷ qs) n e = never (sym e)

pub marked-is : (qs : List (List ℕ)) (n : List ℕ) → null qs ≡ false → spell_marked qs n ≡ av ++ (joined qs ++ spell_name n)
unfolding spell_marked null joined
marked-is [] n e = never e
marked-is (q ∷ qs) n e = refl

pub name-some : (n : List ℕ) → (length n ≡ 0 → ⊥) → spell_name n ≡ mark ++ n
unfolding spell_name
name-some [] h = absurd (h refl)
name-some (x ∷ n) h = refl

-- A closing line's plus: at its place, missing, another byte there, and what follows it. Assumes nothing.
use mathlib.Core.Path.{◌≡◌, sym, ap, ◌∙◌}
use mathlib.Core.Bool.{Bool, true, false}
use mathlib.Core.List.{List, [], ◌∷◌}
use Prim.Native.Nat.{ℕ, suc, ◌+◌, ◌-◌, ◌≤◌, ◌<◌}
use native.Mathlib.Numerals.{add-one}
use native.Mathlib.Omega.{arith}
use lib.ListN.{length, get_or, drop, length-drop, drop_of_length-le}
use lib.Seq.{drop-cons}
use borrow.Author.Tests.{eq-eqb, ne_eqb}
use Rattle.std.proofs.Common.{Ok, Err}
use Rattle.base.specs.Pick.{pick}
use Rattle.base.specs.Seek.{starts}
use Rattle.base.proofs.Cases.{by-test, pick_true, pick-false}
use Rattle.why.specs.Names.{Name, field_number}
use Rattle.why.specs.Walk.{ended, closing_plus, why_close}
use Rattle.fault.specs.line.Walks.{Walk, walk, stop}
use Rattle.fault.proofs.line.Steps.{is-fault, ended-fine, ended-more}

-- ---- a plus at `at`

module _ (w : List ℕ) (x : Walk) (name : Name) (field : ℕ) (e : field_number name ≡ field) where
  module _ (at : ℕ) where
    pub plus_none : length w ≤ at → x ≡ Err (stop 4 43 at 0 field 0 0) → x ≡ walk (closing_plus name at (drop at w))
    unfolding closing_plus walk
    plus_none l h = rw (drop_of_length-le w l, e) h

    module _ (l : at < length w) where
      pub plus-other : (get_or w at 0 ≡ 43 → ⊥) → x ≡ Err (stop 4 43 at (length w - at) field 0 0) → x ≡ walk (closing_plus name at (drop at w))
      unfolding closing_plus walk
      plus-other n h =
          let k : suc (length (drop (suc at) w)) ≡ length w - at = omega (arith, length-drop (suc at) w) in
          h ∙ sym (rw (drop-cons w at 0 l) (ap walk (pick-false _ _ (ne_eqb _ _ n)) ∙ rw (e, k)))

      module _ (g : get_or w at 0 ≡ 43) where
        plus-is : closing_plus name at (drop at w) ≡ ended 43 name (at + 1) (drop (at + 1) w)
        unfolding closing_plus
        plus-is = rw (drop-cons w at 0 l, ← (add-one at)) (pick_true _ _ (eq-eqb _ _ g))

        pub plus-last : length w ≤ at + 1 → x ≡ Ok tt → x ≡ walk (closing_plus name at (drop at w))
        plus-last k h = ended-fine w x name (at + 1) 43 k h ∙ sym (ap walk plus-is)

        pub plus-more : at + 1 < length w → x ≡ Err (stop 4 43 (at + 1) (length w - (at + 1)) field 0 0) → x ≡ walk (closing_plus name at (drop at w))
        plus-more k h = ended-more w x name (at + 1) 43 k (h ∙ ap (λ (n : ℕ). Err (stop 4 43 (at + 1) (length w - (at + 1)) n 0 0)) (sym e)) ∙ sym (ap walk plus-is)

-- ---- behind the first byte

module _ (x : Walk) (near : Bool) (name : Name) (field : ℕ) (e : field_number name ≡ field) where
  pub close-space : (w : List ℕ) → 2 ≤ length w → get_or w 1 0 ≡ 32 → ((m : Name) → field_number m ≡ field → x ≡ walk (closing_plus m 2 (drop 2 w))) → x ≡ walk (why_close near name w)
  unfolding why_close starts pick
  close-space [] l h q = absurd (omega arith)
  close-space (a ∷ []) l h q = absurd (omega arith)
  close-space (a ∷ b ∷ w) l h q = q name e ∙ simp h

  pub close-near : (w : List ℕ) → 2 ≤ length w → (get_or w 1 0 ≡ 32 → ⊥) → near ≡ true → ((m : Name) → field_number m ≡ field → x ≡ walk (closing_plus m 1 (drop 1 w)))
      → x ≡ walk (why_close near name w)
  unfolding why_close starts pick
  close-near [] l h t q = absurd (omega arith)
  close-near (a ∷ []) l h t q = absurd (omega arith)
  close-near (a ∷ b ∷ w) l h t q = q name e ∙ simp (ne_eqb _ _ h, t)

  pub close-far : (w : List ℕ) → 2 ≤ length w → (get_or w 1 0 ≡ 32 → ⊥) → near ≡ false → x ≡ Err (stop 4 43 1 (length w - 1) field 0 0) → x ≡ walk (why_close near name w)
  unfolding why_close starts walk pick
  close-far [] l h t q = absurd (omega arith)
  close-far (a ∷ []) l h t q = absurd (omega arith)
  close-far (a ∷ b ∷ w) l h t q =
      let n : length (a ∷ b ∷ w) - 1 ≡ length (b ∷ w) = omega arith in
      q ∙ (ap (λ (k : ℕ). Err (stop 4 43 1 k field 0 0)) n ∙ simp (ne_eqb _ _ h, t, e))

  -- nothing stands behind it
  pub close-short : (w : List ℕ) → 1 ≤ length w → length w < 2 → x ≡ Err (stop 4 43 1 0 field 0 0) → x ≡ walk (why_close near name w)
  unfolding why_close starts closing_plus walk pick
  close-short [] g l h = absurd (omega arith)
  close-short (a ∷ []) g l h = by-test near (λ t. h ∙ rw (t, e)) (λ t. h ∙ rw (t, e))
  close-short (a ∷ b ∷ w) g l h = absurd (omega arith)

pub ruleset pluses = (is-fault, plus_none, plus-other, plus-last, plus-more)

pub ruleset closes = (is-fault, close-space, close-near, close-far, close-short)

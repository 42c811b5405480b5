-- The answers of the readers, with what the code knows at each. Assumes nothing.
use mathlib.Core.Path.{◌≡◌, refl, sym, ◌∙◌}
use mathlib.Core.Bool.{Bool, true, false}
use mathlib.Core.List.{List, [], ◌∷◌}
use Prim.Native.Nat.{ℕ, suc, ◌+◌, ◌≤◌, ◌<◌}
use native.Mathlib.Numerals.{add-one}
use native.Mathlib.Omega.{arith}
use lib.ListN.{length, get_or, drop, drop_of_length-le}
use lib.Seq.{drop-cons}
use borrow.Author.Tests.{eq-eqb, ne_eqb}
use Rattle.std.proofs.Common.{Result}
use Rattle.base.specs.Pick.{pick}
use Rattle.base.specs.Seek.{starts}
use Rattle.paper.specs.Entries.{Entry, Listed, plain, no, line_end}
use Rattle.paper.specs.ClosingLine.{plus_at, read_close}
use Rattle.refusal.specs.declared.Flaw.{Flaw}
use Rattle.closing.specs.Told.{told}

-- ---- a plus at `at`

module _ (e : Entry) (s : List ℕ) (at : ℕ) where
  pub plus_none : length s ≤ at → no 4 at ≡ plus_at e at (drop at s)
  unfolding plus_at
  plus_none l = rw (drop_of_length-le s l)

  module _ (l : at < length s) where
    pub plus-other : (get_or s at 0 ≡ 43 → ⊥) → no 4 at ≡ plus_at e at (drop at s)
    unfolding plus_at pick
    plus-other n = rw (drop-cons s at 0 l) (simp (ne_eqb _ _ n))

    module _ (h : get_or s at 0 ≡ 43) where
      pub plus-last : length s ≤ at + 1 → plain e ≡ plus_at e at (drop at s)
      unfolding plus_at line_end pick
      plus-last k = rw (drop-cons s at 0 l) (simp (eq-eqb _ _ h, ← add-one, drop_of_length-le s k))

      pub plus-more : at + 1 < length s → no 4 (at + 1) ≡ plus_at e at (drop at s)
      unfolding plus_at line_end pick
      plus-more k = let k : suc at < length s = omega arith in rw (drop-cons s at 0 l, drop-cons s (suc at) 0 k) (simp (eq-eqb _ _ h))

-- ---- behind the first byte

same : (t : Bool) → pick {A = Listed} t (no 4 1) (no 4 1) ≡ no 4 1
unfolding pick
same true = refl
same false = refl

-- r is what `plus_at` answered
module _ (r : Result (Unit {0}) Flaw) (near : Bool) where
  pub close-space : (s : List ℕ) → get_or s 1 0 ≡ 32 → ((e : Entry) → told e r ≡ plus_at e 2 (drop 2 s)) → (e : Entry) → told e r ≡ read_close near e s
  unfolding read_close starts pick
  close-space [] h q e = absurd (omega arith)
  close-space (x ∷ []) h q e = absurd (omega arith)
  close-space (x ∷ y ∷ s) h q e = q e ∙ simp h

  pub close-near : (s : List ℕ) → (get_or s 1 0 ≡ 32 → ⊥) → near ≡ true → ((e : Entry) → told e r ≡ plus_at e 1 (drop 1 s)) → (e : Entry) → told e r ≡ read_close near e s
  unfolding read_close starts pick
  close-near [] h t q e = q e ∙ simp t
  close-near (x ∷ []) h t q e = q e ∙ simp t
  close-near (x ∷ y ∷ s) h t q e = q e ∙ simp (ne_eqb _ _ h, t)

module _ (near : Bool) (e : Entry) where
  pub close-far : (s : List ℕ) → (get_or s 1 0 ≡ 32 → ⊥) → near ≡ false → no 4 1 ≡ read_close near e s
  unfolding read_close starts pick
  close-far [] h t = simp t
  close-far (x ∷ []) h t = simp t
  close-far (x ∷ y ∷ s) h t = simp (ne_eqb _ _ h, t)

  -- nothing stands behind it
  pub close-short : (s : List ℕ) → length s < 2 → no 4 1 ≡ read_close near e s
  unfolding read_close starts plus_at pick
  close-short [] l = sym (same near)
  close-short (x ∷ []) l = sym (same near)
  close-short (x ∷ y ∷ s) l = absurd (omega arith)

pub ruleset closes = (plus_none, plus-other, plus-last, plus-more, close-space, close-near, close-far, close-short)

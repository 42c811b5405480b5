-- The type of a record of 130 bytes: rules for a search. Assumes nothing.
use mathlib.Core.Path.{◌≡◌, refl, sym, ap, ◌∙◌}
use mathlib.Core.Bool.{true, false}
use mathlib.Core.List.{List, [], ◌∷◌}
use Prim.Native.Nat.{ℕ, suc, ◌<◌}
use native.Mathlib.Omega.{arith}
use lib.Dec.{eqb}
use lib.ListN.{length, get_or, drop}
use lib.Seq.{drop-cons}
use borrow.Author.Tests.{eq-eqb, ne_eqb}
use Rattle.base.specs.Pick.{pick}
use Rattle.base.specs.Seek.{starts}
use Rattle.base.proofs.Lists.{drop-none}
use Rattle.gpc.specs.Records.{head_is, movement_is, no_record, crlf, read_head, read_movement, read_record}

-- the text at `at` begins with one byte and then others
starts-at : (p : ℕ) (ps s : List ℕ) (at : ℕ) → at < length s → starts (p ∷ ps) (drop at s) ≡ pick (eqb (get_or s at 0) p) (starts ps (drop (suc at) s)) false
unfolding starts
starts-at p ps s at h = rw (drop-cons s at 0 h) refl

module _ (s : List ℕ) (long : length s ≡ 130) where
  abbrev at : ℕ → ℕ
  at i = get_or s i 0

  ended : starts crlf (drop 128 s) ≡ pick (eqb (at 128) 13) (pick (eqb (at 129) 10) true false) false
  unfolding starts
  ended = starts-at 13 (10 ∷ []) s 128 (omega arith) ∙ rw (starts-at 10 [] s 129 (omega arith)) refl

  typed : (x : ℕ) → starts (48 ∷ 55 ∷ x ∷ []) s ≡ pick (eqb (at 0) 48) (pick (eqb (at 1) 55) (pick (eqb (at 2) x) true false) false) false
  unfolding starts
  typed x =
      ap (starts (48 ∷ 55 ∷ x ∷ [])) (sym (drop-none s))
      ∙ starts-at 48 (55 ∷ x ∷ []) s 0 (omega arith)
      ∙ rw (starts-at 55 (x ∷ []) s 1 (omega arith), starts-at x [] s 2 (omega arith)) refl

  tests : read_record s
      ≡ pick (pick (eqb (at 128) 13) (pick (eqb (at 129) 10) true false) false)
      (pick (pick (eqb (at 0) 48) (pick (eqb (at 1) 55) (pick (eqb (at 2) 52) true false) false) false) (head_is (read_head s))
      (pick (pick (eqb (at 0) 48) (pick (eqb (at 1) 55) (pick (eqb (at 2) 53) true false) false) false) (movement_is (read_movement s)) no_record))
      no_record
  unfolding read_record
  tests = rw (ended, typed 52, typed 53) refl

  pub no-cr : (at 128 ≡ 13 → ⊥) → no_record ≡ read_record s
  unfolding pick
  no-cr a = sym (tests ∙ simp (ne_eqb (at 128) 13 a))

  module _ (cr : at 128 ≡ 13) where
    pub no-lf : (at 129 ≡ 10 → ⊥) → no_record ≡ read_record s
    unfolding pick
    no-lf a = sym (tests ∙ simp (eq-eqb (at 128) 13 cr, ne_eqb (at 129) 10 a))

    module _ (lf : at 129 ≡ 10) where
      pub no-0 : (at 0 ≡ 48 → ⊥) → no_record ≡ read_record s
      unfolding pick
      no-0 a = sym (tests ∙ simp (eq-eqb (at 128) 13 cr, eq-eqb (at 129) 10 lf, ne_eqb (at 0) 48 a))

      module _ (zero : at 0 ≡ 48) where
        pub no-7 : (at 1 ≡ 55 → ⊥) → no_record ≡ read_record s
        unfolding pick
        no-7 a = sym (tests ∙ simp (eq-eqb (at 128) 13 cr, eq-eqb (at 129) 10 lf, eq-eqb (at 0) 48 zero, ne_eqb (at 1) 55 a))

        module _ (seven : at 1 ≡ 55) where
          pub is-4 : at 2 ≡ 52 → head_is (read_head s) ≡ read_record s
          unfolding pick
          is-4 a = sym (tests ∙ simp (eq-eqb (at 128) 13 cr, eq-eqb (at 129) 10 lf, eq-eqb (at 0) 48 zero, eq-eqb (at 1) 55 seven, eq-eqb (at 2) 52 a))

          pub is-5 : at 2 ≡ 53 → movement_is (read_movement s) ≡ read_record s
          unfolding pick
          is-5 a =
              sym
              (tests
              ∙ simp (eq-eqb (at 128) 13 cr, eq-eqb (at 129) 10 lf, eq-eqb (at 0) 48 zero, eq-eqb (at 1) 55 seven, eq-eqb (at 2) 53 a, ne_eqb (at 2) 52 (λ e. omega (arith, a, e))))

          pub no-4-5 : (at 2 ≡ 52 → ⊥) → (at 2 ≡ 53 → ⊥) → no_record ≡ read_record s
          unfolding pick
          no-4-5 a b =
              sym
              (tests
              ∙ simp (eq-eqb (at 128) 13 cr, eq-eqb (at 129) 10 lf, eq-eqb (at 0) 48 zero, eq-eqb (at 1) 55 seven, ne_eqb (at 2) 52 a, ne_eqb (at 2) 53 b))

pub ruleset types = (no-cr, no-lf, no-0, no-7, is-4, is-5, no-4-5)

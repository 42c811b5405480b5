-- The numbers of account files: lists of which none is marked, and the line of an account file where its number is looked up. Assumes nothing.
use mathlib.Core.Path.{◌≡◌, refl, sym, ap, ◌∙◌}
use mathlib.Core.Bool.{true, false}
use mathlib.Core.List.{List, [], ◌∷◌}
use Prim.Native.Nat.{ℕ}
use native.Mathlib.Omega.{arith}
use lib.Dec.{eqb}
use borrow.Author.Tests.{eq-eqb, ne_eqb}
use Rattle.base.specs.Pick.{pick}
use Rattle.base.proofs.Cases.{by-test, by-eq, pick_true, pick-false}
use Rattle.base.proofs.Seek.{never}
use Rattle.sheet.specs.declared.Sheet.{Sheet}
use Rattle.paper.specs.Warnings.{Notice}
use Rattle.paper.specs.Batch.{AccountFile}
use Rattle.paper.specs.Entries.{file, Places, Listed, no, said}
use Rattle.paper.specs.FileLine.{series, member, read_file}
use Rattle.paper.specs.Judge.{rev_on, seen}
use Rattle.paper.proofs.Passing.{same_parts}
use Rattle.register.specs.Marks.{Marks}
use Rattle.against.specs.Against.{unused_test}
use Rattle.against.specs.FirstUsed.{Unused, Reaches}
use Rattle.against.proofs.First.{no-got}
use Rattle.against.proofs.Shape.{Shape, early, whole, late}

-- ---- account files none of whose numbers is marked

module _ (p : Marks) where
  pub none-unused : Unused p []
  unfolding seen member
  none-unused n i = never (sym i)

  pub more-unused : (f : AccountFile) (fs : List AccountFile) → p (series f.number) ≡ false → Unused p fs → Unused p (f ∷ fs)
  unfolding seen member
  more-unused f fs e u n i =
      by-eq n (series f.number) (λ q. rw q e) (λ d. u n (sym (pick-false _ _ (ne_eqb n (series f.number) d)) ∙ i))

  pub first-unused : (f : AccountFile) (fs : List AccountFile) → Unused p (f ∷ fs) → p (series f.number) ≡ false
  unfolding seen member
  first-unused f fs u = u (series f.number) (pick_true _ _ (eq-eqb (series f.number) (series f.number) refl))

  pub rest-unused : (f : AccountFile) (fs : List AccountFile) → Unused p (f ∷ fs) → Unused p fs
  unfolding seen member
  rest-unused f fs u n i = u n (by-test (eqb n (series f.number)) (λ y. pick_true _ _ y) (λ d. pick-false _ _ d ∙ i))

  -- in whichever order they are kept
  pub rev-unused : (a m : List AccountFile) → Unused p a → Unused p m → Unused p (rev_on a m)
  rev-unused [] m u v = v
  rev-unused (f ∷ a) m u v = rev-unused a (f ∷ m) (rest-unused f a u) (more-unused f m (first-unused f a u) v)

  pub unused-rev : (a m : List AccountFile) → Unused p (rev_on a m) → Unused p a × Unused p m
  unused-rev [] m u = (none-unused, u)
  unused-rev (f ∷ a) m u =
      let r = unused-rev a (f ∷ m) u in (more-unused f a (first-unused f m r.1) r.0, rest-unused f m r.1)

-- ---- the line of an account file

module _ (marks : Marks) (test : ℕ → ℕ) where
  -- the number is refused as ever, or free; or it is marked
  as-ever : (n : ℕ) → (test n ≡ 0 → ⊥) → unused_test marks test n ≡ test n
  unfolding unused_test
  as-ever n d = pick-false _ _ (ne_eqb (test n) 0 d)

  free : (n : ℕ) → test n ≡ 0 → marks (series n) ≡ false → unused_test marks test n ≡ test n
  unfolding unused_test
  free n z m = pick_true _ _ (eq-eqb (test n) 0 z) ∙ pick-false _ _ m ∙ sym z

  taken : (n : ℕ) → test n ≡ 0 → marks (series n) ≡ true → unused_test marks test n ≡ 22
  unfolding unused_test
  taken n z m = pick_true _ _ (eq-eqb (test n) 0 z) ∙ pick_true _ _ m

  module _ (sh : Sheet) (s : List ℕ) where
    -- 22 where the line is right up to a number that is marked
    pub reached-22 : (n off : ℕ) → Reaches sh s n off → test n ≡ 0 → marks (series n) ≡ true
        → read_file sh (unused_test marks test) s ≡ no 22 off
    reached-22 n off r z m =
        let e = taken n z m in r (unused_test marks test) (λ i. omega (arith, e, i)) ∙ ap (λ c. no c off) e

    -- if it opens an account file, that has a number of which P holds
    abbrev Numbered : (ℕ → Type 0) → Listed → Type 0
    Numbered P r = (kind n : ℕ) (w : List Notice) (p : Places) → r ≡ said (file kind n) w p → P n

    -- the line says what it says as ever, and its number is not marked; or it is right up to a number that is
    pub data Opening : Type 0 where
      alike : read_file sh (unused_test marks test) s ≡ read_file sh test s → Numbered (λ n. marks (series n) ≡ false) (read_file sh test s) → Opening
      hit : {n off : ℕ} → Reaches sh s n off → test n ≡ 0 → marks (series n) ≡ true → Numbered (λ m. m ≡ n) (read_file sh test s) → Opening

    refused-numbered : (P : ℕ → Type 0) {c at : ℕ} {r : Listed} → r ≡ no c at → Numbered P r
    refused-numbered P q kind n w p e = no-got (sym q ∙ e)

    -- a line that is read as `good` but for its number n, at `off`
    module _ (n off : ℕ) (good : Listed) (its : Numbered (λ m. m ≡ n) good)
        (says : (t : ℕ → ℕ) → read_file sh t s ≡ pick (eqb (t n) 0) good (no (t n) off)) where
      same : unused_test marks test n ≡ test n → read_file sh (unused_test marks test) s ≡ read_file sh test s
      same e = says (unused_test marks test) ∙ ap (λ c. pick (eqb c 0) good (no c off)) e ∙ sym (says test)

      good-numbered : test n ≡ 0 → Numbered (λ m. m ≡ n) (read_file sh test s)
      good-numbered z kind m w p e = its kind m w p (sym (says test ∙ pick_true _ _ (eq-eqb (test n) 0 z)) ∙ e)

      numbered : Opening
      numbered =
          by-eq (test n) 0
          (λ z. by-test (marks (series n))
          (λ m. hit (λ t d. says t ∙ pick-false _ _ (ne_eqb (t n) 0 d)) z m (good-numbered z))
          (λ m. alike (same (free n z m)) (λ kind a w p e. rw (good-numbered z kind a w p e) m)))
          (λ d. alike (same (as-ever n d)) (refused-numbered _ (says test ∙ pick-false _ _ (ne_eqb (test n) 0 d))))

    file-number : {a n b m : ℕ} {v w : List Notice} {p q : Places} → said (file a n) v p ≡ said (file b m) w q → m ≡ n
    file-number e = let y = (same_parts e).0 in cc

    pub opening : Shape sh s → Opening
    opening (early _ f) = alike (f (unused_test marks test) ∙ sym (f test)) (refused-numbered _ (f test))
    opening (whole n off kind f) = numbered n off _ (λ _ m w p e. file-number e) f
    opening (late n off c at _ f) = numbered n off _ (λ _ m w p e. no-got e) f

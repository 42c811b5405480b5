-- The tests of a batch's and a sheet's texts, as facts about each part. Assumes nothing.
use mathlib.Core.Path.{◌≡◌, refl, sym, ◌∙◌}
use mathlib.Core.Bool.{true, false}
use mathlib.Core.List.{List, [], ◌∷◌}
use Prim.Native.Nat.{ℕ, zero, suc, ◌+◌, ◌-◌, ◌≤◌}
use native.Mathlib.Omega.{arith}
use lib.Dec.{ltb}
use lib.ListN.{length}
use borrow.Author.Tests.{ltb-false, eqb-true, lt-ltb, le-ltb, eq-eqb}
use Rattle.base.specs.Pick.{pick}
use Rattle.base.specs.Seek.{all, seek, Free}
use Rattle.base.proofs.Cases.{by-test, by-lt, pick_true, pick-false, pick-both, both-pick}
use Rattle.base.proofs.Seek.{never}
use Rattle.sheet.specs.declared.Style.{Style}
use Rattle.paper.specs.Bytes.{is_text, bar, mark, null}
use Rattle.paper.specs.Texts.{lacks, taken, name_proper, part_proper, words_carried, part_carried, name_carried, parts_proper, parts_carried, keep, trim}
use Rattle.text.proofs.wording.Parts.{Every, none, more, fill, keep-le, keep-none}

-- a part that is proper, without ` NP:` where names are, and of bytes that the sheet takes
pub record Fit (y : Style) (p : List ℕ) : Type 0 where
  pub short : length p ≤ 35
  pub text : all is_text p ≡ true
  pub bars : Free bar p
  pub marks : y.names ≡ true → Free mark p
  pub bytes : taken y p ≡ true

lacks-free : (ps s : List ℕ) → lacks ps s ≡ true → Free ps s
unfolding lacks
lacks-free ps s e = eqb-true (seek ps s) (length s) e

free-lacks : (ps s : List ℕ) → Free ps s → lacks ps s ≡ true
unfolding lacks
free-lacks ps s e = eq-eqb (seek ps s) (length s) e

pub null_is : (s : List ℕ) → null s ≡ true → s ≡ []
unfolding null
null_is [] e = refl
null_is (x ∷ s) e = never (sym e)

-- names
pub proper-name : (n : List ℕ) → length n ≤ 35 → all is_text n ≡ true → name_proper n ≡ true
unfolding name_proper
proper-name n h t = pick-false _ _ (le-ltb 35 (length n) h) ∙ t

pub name-proper : (n : List ℕ) → name_proper n ≡ true → (length n ≤ 35) × (all is_text n ≡ true)
unfolding name_proper
name-proper n =
    by-test (ltb 35 (length n))
    (λ e h. never (sym h ∙ pick_true _ _ e))
    (λ e h. (ltb-false 35 (length n) e, sym (pick-false _ _ e) ∙ h))

module _ (y : Style) where
  pub carried-name : (n : List ℕ) → (y.names ≡ false → n ≡ []) → name_carried y n ≡ true
  unfolding name_carried null
  carried-name n h = by-test y.names (λ e. pick_true _ _ e) (λ e. pick-false _ _ e ∙ rw (h e))

  pub name-carried : (n : List ℕ) → name_carried y n ≡ true → y.names ≡ false → n ≡ []
  unfolding name_carried
  name-carried n h e = null_is n (sym (pick-false _ _ e) ∙ h)

  -- parts
  fit-proper : (p : List ℕ) → Fit y p → part_proper p ≡ true
  unfolding part_proper
  fit-proper p f = both-pick (name_proper p) (lacks bar p) (proper-name p f.short f.text) (free-lacks bar p f.bars)

  pub fits-proper : {ps : List (List ℕ)} → Every (Fit y) ps → parts_proper ps ≡ true
  unfolding parts_proper
  fits-proper none = refl
  fits-proper (more {p = p} {ps = ps} h t) = both-pick (part_proper p) (parts_proper ps) (fit-proper p h) (fits-proper t)

  words-carried : (p : List ℕ) → Fit y p → words_carried y p ≡ true
  unfolding words_carried
  words-carried p f =
      both-pick (pick y.names (lacks mark p) true) (taken y p)
      (by-test y.names (λ e. pick_true _ _ e ∙ free-lacks mark p (f.marks e)) (λ e. pick-false _ _ e))
      f.bytes

  empty-carried : (i : ℕ) → Fit y [] → part_carried y i [] ≡ true
  unfolding part_carried null
  empty-carried i f =
      both-pick (pick (ltb i y.most) true true) (words_carried y [])
      (by-test (ltb i y.most) (λ e. pick_true _ _ e) (λ e. pick-false _ _ e))
      (words-carried [] f)

  fill_none : (n i : ℕ) → Fit y [] → parts_carried y i (fill n []) ≡ true
  unfolding fill parts_carried
  fill_none zero i f = refl
  fill_none (suc n) i f = both-pick (part_carried y i []) (parts_carried y (suc i) (fill n [])) (empty-carried i f) (fill_none n (suc i) f)

  pub fits-carried : Fit y [] → (n i : ℕ) {ps : List (List ℕ)} → i + length ps ≤ y.most → Every (Fit y) ps → parts_carried y i (fill n ps) ≡ true
  unfolding fill parts_carried part_carried
  fits-carried f zero i l none = refl
  fits-carried f zero i l (more h t) = refl
  fits-carried f (suc n) i l none = fill_none (suc n) i f
  fits-carried f (suc n) i l (more {p = p} {ps = ps} h t) =
      both-pick (part_carried y i p) (parts_carried y (suc i) (fill n ps))
      (both-pick (pick (ltb i y.most) true (null p)) (words_carried y p) (pick_true _ _ (lt-ltb i y.most (omega arith))) (words-carried p h))
      (fits-carried f n (suc i) (omega arith) t)

  -- and back
  carried-both : (i : ℕ) (p : List ℕ) → part_carried y i p ≡ true → (pick (ltb i y.most) true (null p) ≡ true) × (words_carried y p ≡ true)
  unfolding part_carried
  carried-both i p = pick-both (pick (ltb i y.most) true (null p)) (words_carried y p)

  part-fit : (i : ℕ) (p : List ℕ) → part_proper p ≡ true → part_carried y i p ≡ true → Fit y p
  unfolding part_proper words_carried
  part-fit i p h c =
      let b = pick-both (name_proper p) (lacks bar p) h in
      let n = name-proper p b.0 in
      let w = pick-both (pick y.names (lacks mark p) true) (taken y p) (carried-both i p c).1 in
      record {
        short = n.0;
        text = n.1;
        bars = lacks-free bar p b.1;
        marks = λ e. lacks-free mark p (sym (pick_true _ _ e) ∙ w.0);
        bytes = w.1;
      }

  pub parts-fit : (i : ℕ) (ps : List (List ℕ)) → parts_proper ps ≡ true → parts_carried y i ps ≡ true → Every (Fit y) ps
  unfolding parts_proper parts_carried
  parts-fit i [] h c = none
  parts-fit i (p ∷ ps) h c =
      let a = pick-both (part_proper p) (parts_proper ps) h in
      let b = pick-both (part_carried y i p) (parts_carried y (suc i) ps) c in
      more (part-fit i p a.0 b.0) (parts-fit (suc i) ps a.1 b.1)

  -- no more parts than the sheet takes, up to the last one not empty
  few-keep : (i : ℕ) (p : List ℕ) (qs : List (List ℕ)) → part_carried y i p ≡ true → length qs ≤ y.most - suc i → length (keep p qs) ≤ y.most - i
  few-keep i p qs c h =
      by-lt i y.most (λ l. omega (arith, keep-le p qs)) (λ l.
      let e : p ≡ [] = null_is p (sym (pick-false _ _ (le-ltb i y.most l)) ∙ (carried-both i p c).0) in
      rw e (omega (arith, keep-none qs (omega arith))))

  pub few-parts : (i : ℕ) (ps : List (List ℕ)) → parts_carried y i ps ≡ true → length (trim ps) ≤ y.most - i
  unfolding trim parts_carried
  few-parts i [] c = omega arith
  few-parts i (p ∷ ps) c =
      let b = pick-both (part_carried y i p) (parts_carried y (suc i) ps) c in
      few-keep i p (trim ps) b.0 (few-parts (suc i) ps b.1)

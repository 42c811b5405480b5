-- The rules of a text, by what the code asks. Assumes nothing.
use mathlib.Core.Path.{◌≡◌, sym, ap, ◌∙◌}
use mathlib.Core.Bool.{Bool, true, false}
use mathlib.Core.List.{List}
use Prim.Native.Nat.{ℕ, ◌+◌, ◌≤◌, ◌<◌}
use native.Mathlib.Omega.{arith}
use lib.Dec.{leb}
use lib.ListN.{length, drop}
use borrow.Author.Tests.{eq-eqb, ne_eqb, le-leb, lt-leb}
use Rattle.std.proofs.Common.{Ok, Err}
use Rattle.base.specs.Pick.{pick}
use Rattle.base.specs.Seek.{all, seek}
use Rattle.base.proofs.Cases.{pick_true, pick-false}
use Rattle.base.proofs.Seek.{seek-le}
use Rattle.base.proofs.Lists.{drop-none}
use Rattle.sheet.specs.declared.Style.{Style}
use Rattle.paper.specs.Bytes.{is_text, bar}
use Rattle.paper.specs.Texts.{opens, taken, lacks}
use Rattle.why.specs.Rule.{Rule, rule, within, first_broken}
use Rattle.why.specs.Texts.{is_message, begins, parts_of, are_few, are_short, are_taken, is_short, marked_rules, plain_rules, text_rules}
use Rattle.fault.specs.field.Ruled.{Ruling, broken, ruling}
use Rattle.fault.proofs.field.Rulings.{is-broken, first-kept, first-broke, all-kept}

-- ---- its bytes

module _ (y : Style) (s : List ℕ) (r : Bool) (k : Bool) (q : k ≡ all is_text (drop 0 s)) where
  text-is : all is_text s ≡ k
  text-is = ap (all is_text) (sym (drop-none s)) ∙ sym q

  pub no-text : k ≡ false → r ≡ false → r ≡ is_message y s
  unfolding is_message
  no-text n h = h ∙ sym (pick-false _ _ (text-is ∙ n))

  pub opened : k ≡ true → y.av ≡ true → r ≡ opens (drop 0 s) → r ≡ is_message y s
  unfolding is_message
  opened n a h = h ∙ (ap opens (drop-none s) ∙ sym (pick_true _ _ (text-is ∙ n) ∙ pick_true _ _ a))

  pub as_stands : k ≡ true → y.av ≡ false → r ≡ true → r ≡ is_message y s
  unfolding is_message
  as_stands n a h = h ∙ sym (pick_true _ _ (text-is ∙ n) ∙ pick-false _ _ a)

pub ruleset messages = (no-text, opened, as_stands)

-- ---- a text as it stands

module _ (x : Ruling) (y : Style) (s : List ℕ) (k : Bool) (q : k ≡ pick y.cuts true (leb (length s) 35)) where
  short-is : is_short y s ≡ k
  unfolding is_short
  short-is = sym q

  pub plain-long : k ≡ false → x ≡ Err (broken 14 142 y.most 35) → x ≡ ruling (first_broken (plain_rules y) s)
  plain-long n h = first-broke x s (within 14 142 y.most 35 (is_short y)) _ (short-is ∙ n) h

  module _ (n : k ≡ true) (d : ℕ) (e : d ≡ 0 + seek bar s) where
    pub plain-barred : d < length s → x ≡ Err (broken 14 143 y.most 35) → x ≡ ruling (first_broken (plain_rules y) s)
    unfolding lacks
    plain-barred l h =
        first-kept x s (within 14 142 y.most 35 (is_short y)) _ (short-is ∙ n)
        (first-broke x s (within 14 143 y.most 35 (lacks bar)) _ (ne_eqb (seek bar s) (length s) (λ f. absurd (omega arith))) h)

    module _ (l : length s ≤ d) (j : Bool) (t : j ≡ taken y (drop 0 s)) where
      free : lacks bar s ≡ true
      unfolding lacks
      free = eq-eqb (seek bar s) (length s) (omega (arith, seek-le bar s))

      taken_is : taken y s ≡ j
      taken_is = ap (taken y) (sym (drop-none s)) ∙ sym t

      pub plain-kept : j ≡ true → x ≡ Ok tt → x ≡ ruling (first_broken (plain_rules y) s)
      plain-kept m h =
          first-kept x s (within 14 142 y.most 35 (is_short y)) _ (short-is ∙ n)
          (first-kept x s (within 14 143 y.most 35 (lacks bar)) _ free (first-kept x s (within 14 144 y.most 35 (taken y)) _ (taken_is ∙ m) (all-kept x s h)))

      pub plain-unclean : j ≡ false → x ≡ Err (broken 14 144 y.most 35) → x ≡ ruling (first_broken (plain_rules y) s)
      plain-unclean m h =
          first-kept x s (within 14 142 y.most 35 (is_short y)) _ (short-is ∙ n)
          (first-kept x s (within 14 143 y.most 35 (lacks bar)) _ free (first-broke x s (within 14 144 y.most 35 (taken y)) _ (taken_is ∙ m) h))

pub ruleset plains = (is-broken, plain-long, plain-barred, plain-kept, plain-unclean)

-- ---- a text with marks, where it is known how many parts it has, how long they are, and whether they are taken

module _ (x : Ruling) (y : Style) (s : List ℕ) (b : begins y s ≡ true) (count : ℕ) (c : length (parts_of y s) ≡ count) where
  few-is : are_few y s ≡ leb count y.most
  unfolding are_few
  few-is = ap (λ (n : ℕ). leb n y.most) c

  pub marked-many : y.most < count → x ≡ Err (broken 14 141 y.most 35) → x ≡ ruling (first_broken (marked_rules y) s)
  marked-many l h =
      first-kept x s (within 14 140 y.most 35 (begins y)) _ b
      (first-broke x s (within 14 141 y.most 35 (are_few y)) _ (few-is ∙ lt-leb count y.most l) h)

  module _ (l : count ≤ y.most) (k : Bool) (q : are_short y s ≡ k) where
    few : are_few y s ≡ true
    few = few-is ∙ le-leb count y.most l

    pub marked-long : k ≡ false → x ≡ Err (broken 14 142 y.most 35) → x ≡ ruling (first_broken (marked_rules y) s)
    marked-long n h =
        first-kept x s (within 14 140 y.most 35 (begins y)) _ b
        (first-kept x s (within 14 141 y.most 35 (are_few y)) _ few (first-broke x s (within 14 142 y.most 35 (are_short y)) _ (q ∙ n) h))

    module _ (n : k ≡ true) (j : Bool) (t : are_taken y s ≡ j) where
      pub marked-kept : j ≡ true → x ≡ Ok tt → x ≡ ruling (first_broken (marked_rules y) s)
      marked-kept m h =
          first-kept x s (within 14 140 y.most 35 (begins y)) _ b
          (first-kept x s (within 14 141 y.most 35 (are_few y)) _ few
          (first-kept x s (within 14 142 y.most 35 (are_short y)) _ (q ∙ n) (first-kept x s (within 14 144 y.most 35 (are_taken y)) _ (t ∙ m) (all-kept x s h))))

      pub marked-unclean : j ≡ false → x ≡ Err (broken 14 144 y.most 35) → x ≡ ruling (first_broken (marked_rules y) s)
      marked-unclean m h =
          first-kept x s (within 14 140 y.most 35 (begins y)) _ b
          (first-kept x s (within 14 141 y.most 35 (are_few y)) _ few
          (first-kept x s (within 14 142 y.most 35 (are_short y)) _ (q ∙ n) (first-broke x s (within 14 144 y.most 35 (are_taken y)) _ (t ∙ m) h)))

-- ---- any text

module _ (x : Ruling) (y : Style) (s : List ℕ) (k : Bool) (q : k ≡ is_message y s) where
  pub text-broke : k ≡ false → x ≡ Err (broken 4 40 0 0) → x ≡ ruling (first_broken (text_rules y) s)
  text-broke n h = first-broke x s (rule 4 40 (is_message y)) _ (sym q ∙ n) h

  module _ (n : k ≡ true) where
    pub text-marked : y.av ≡ true → x ≡ ruling (first_broken (marked_rules y) s) → x ≡ ruling (first_broken (text_rules y) s)
    text-marked a h = first-kept x s (rule 4 40 (is_message y)) _ (sym q ∙ n) (h ∙ ap (λ (rs : List Rule). ruling (first_broken rs s)) (sym (pick_true _ _ a)))

    pub text-plain : y.av ≡ false → x ≡ ruling (first_broken (plain_rules y) s) → x ≡ ruling (first_broken (text_rules y) s)
    text-plain a h = first-kept x s (rule 4 40 (is_message y)) _ (sym q ∙ n) (h ∙ ap (λ (rs : List Rule). ruling (first_broken rs s)) (sym (pick-false _ _ a)))

pub ruleset texts = (is-broken, text-broke, text-marked, text-plain)

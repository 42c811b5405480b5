-- Digits and a sign that were read are spelled as they stood, but for a minus before zero; and a posting code is. Assumes nothing.
use mathlib.Core.Path.{◌≡◌, refl, sym, ap, ◌∙◌}
use mathlib.Core.Bool.{Bool, true, false}
use mathlib.Core.List.{List, [], ◌∷◌, ◌++◌}
use Prim.Native.Nat.{ℕ, ◌+◌, ◌-◌, ◌%◌, ◌≤◌}
use native.Mathlib.Omega.{arith}
use lib.Dec.{eqb}
use lib.ListN.{length, drop, drop_of_length-le}
use lib.Seq.{take_at}
use borrow.Author.Tests.{eqb-true, eq-eqb, ne_eqb}
use Rattle.base.specs.Pick.{pick}
use Rattle.base.specs.Seek.{all}
use Rattle.base.proofs.Cases.{by-test, by-eq}
use Rattle.base.proofs.Put.{put-seam}
use Rattle.base.proofs.Seek.{all_head, all_tail}
use Rattle.paper.specs.Read.{value}
use Rattle.paper.specs.Bytes.{is_digit}
use Rattle.paper.specs.Numerals.{digits_on, digits, fixed_on, fixed}
use Rattle.numeral.proofs.Sound.{same, read-on, digits-least, digits-most}
use Rattle.numeral.proofs.given.Given.{value-fault, value_same, passed}
use Rattle.internal.proofs.Numbers.{digits-spelled}
use Rattle.gpc.specs.Signed.{Signed, signed, read_minus, spell_signed}
use Rattle.gpc.specs.Turnovers.{is_code}
use Rattle.gpc.specs.Records.{read_code}
use Rattle.gpc.specs.Canonical.{is_nought, plain_sign}
use Rattle.gpcback.proofs.Fields.{code-digit}
use Rattle.gpcback.proofs.ReadFields.{SignedSaid}

-- ---- a posting code

pub code-spelled : (s : List ℕ) (c : ℕ) → length s ≡ 1 → read_code s ≡ value c → fixed 1 c ≡ s
unfolding read_code fixed fixed_on
code-spelled [] c l e = absurd (omega arith)
code-spelled (x ∷ y ∷ s) c l e = absurd (omega arith)
code-spelled (x ∷ []) c l e =
    let p = passed (is_code (x - 48)) (x - 48) c 51 e in
    let q = code-digit (x - 48) p.0 in
    let f : 48 + c % 10 ≡ x = omega (arith, p.1, q.0, q.1) in
    ap (λ (b : ℕ). b ∷ []) f

-- ---- zeros

noughts-read : (d : List ℕ) → all is_nought d ≡ true → digits_on 0 d ≡ value 0
unfolding digits_on is_digit is_nought pick
noughts-read [] h = refl
noughts-read (x ∷ d) h = rw (eqb-true x 48 (all_head is_nought x d h)) (noughts-read d (all_tail is_nought x d h))

module _ (d : List ℕ) (v : ℕ) (e : digits 14 14 d ≡ value v) where
  -- zeros are zero, and nothing else is
  noughts : v ≡ 0 → all is_nought d ≡ true
  unfolding fixed fixed_on is_nought all pick
  noughts z = rw (← (digits-spelled 14 d v e), z) refl

  no-noughts : (v ≡ 0 → ⊥) → all is_nought d ≡ false
  no-noughts n = by-test (all is_nought d) (λ t. absurd (n (same v 0 (sym (read-on 14 14 d v e) ∙ noughts-read d t)))) (λ t. t)

-- ---- the sign

sign-spelled : (plus : ℕ) (c : List ℕ) (minus : Bool) → length c ≡ 1 → read_minus plus c ≡ value minus → pick minus 45 plus ∷ [] ≡ c
unfolding read_minus pick
sign-spelled plus [] minus l e = absurd (omega arith)
sign-spelled plus (b ∷ x ∷ c) minus l e = absurd (omega arith)
sign-spelled plus (b ∷ []) minus l e =
    by-eq b 45
    (λ f. rw (← (value_same true minus (simp (eq-eqb b 45 f) at e)), f))
    (λ n. by-eq b plus
    (λ f. rw (← (value_same false minus (simp (ne_eqb b 45 n, eq-eqb b plus f) at e)), f))
    (λ m. value-fault minus 51 (sym (simp (ne_eqb b 45 n, ne_eqb b plus m) at e))))

-- ---- both: a field of fifteen bytes, made plain

module _ (plus : ℕ) (d c : List ℕ) (x : Signed) (h : SignedSaid plus d c x) (one : length c ≡ 1) where
  long : length d ≡ 14
  long = omega (arith, digits-least 14 14 d x.size h.size, digits-most 14 14 d x.size h.size)

  -- the sign that x has
  sign_of : (t : Bool) → eqb x.size 0 ≡ t → x.minus ≡ pick t false h.minus
  unfolding signed
  sign_of t e = sym (ap (λ (y : Signed). y.minus) h.both) ∙ ap (λ (u : Bool). pick u false h.minus) e

  plain_of : plain_sign plus 0 (d ++ c) ≡ d ++ (pick x.minus 45 plus ∷ [])
  unfolding plain_sign pick
  plain_of =
      by-eq x.size 0
      (λ z.
      let le : length c ≤ 1 = omega arith in
      let none : drop 1 c ≡ [] = drop_of_length-le c le in
      let minus : x.minus ≡ false = sign_of true (eq-eqb x.size 0 z) in
      rw (take_at d c 14 long, noughts d x.size h.size z, put-seam d c 14 (plus ∷ []) long, none)
      (ap (λ (m : Bool). d ++ (pick m 45 plus ∷ [])) (sym minus)))
      (λ n.
      let minus : x.minus ≡ h.minus = sign_of false (ne_eqb x.size 0 n) in
      rw (take_at d c 14 long, no-noughts d x.size h.size n)
      (ap (λ (l : List ℕ). d ++ l) (sym (sign-spelled plus c h.minus one h.sign) ∙ ap (λ (m : Bool). pick m 45 plus ∷ []) (sym minus))))

  pub sign-plain : plain_sign plus 0 (d ++ c) ≡ spell_signed plus x
  unfolding spell_signed
  sign-plain = plain_of ∙ ap (λ (l : List ℕ). l ++ (pick x.minus 45 plus ∷ [])) (sym (digits-spelled 14 d x.size h.size))

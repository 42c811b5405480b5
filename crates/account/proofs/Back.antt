-- A proper account, spelled, is read back, as an account and as a payer; how long its spelling is; and an empty field is nobody.
-- Assumes nothing.
use mathlib.Core.Path.{◌≡◌, refl, sym, ap, ◌∙◌}
use mathlib.Core.Bool.{Bool, true, false}
use mathlib.Core.List.{List, [], ◌∷◌, ◌++◌}
use Prim.Native.Nat.{ℕ, ◌+◌, ◌≤◌, ◌<◌}
use native.Mathlib.Omega.{arith}
use lib.ListN.{length, drop, length-append}
use lib.Seq.{take-append_seam, drop-append-add}
use borrow.Author.Tests.{lt-ltb, le-ltb}
use Rattle.base.specs.Pick.{pick}
use Rattle.base.specs.Seek.{all, seek, before, Free}
use Rattle.base.proofs.Cases.{by-eq, either, pick_true, pick-false}
use Rattle.base.proofs.Seek.{seek-join}
use Rattle.numeral.proofs.given.Given.{given-on}
use Rattle.numeral.proofs.Plain.{digit-free, decimal-plain}
use Rattle.numeral.proofs.Long.{decimal-most, decimal-least}
use Rattle.numeral.proofs.Back.{decimal-back-from, decimal-back}
use Rattle.paper.specs.Read.{value}
use Rattle.paper.specs.Bytes.{is_digit, dash, null}
use Rattle.paper.specs.Numerals.{digits, decimal}
use Rattle.paper.specs.Accounts.{Account, account, nobody, account_ok, ruled, two_parts, one_part, read_account, account_proper, spell_account, read_payer}
use Rattle.account.specs.Parts.{with_base}
use Rattle.account.proofs.Proper.{ok-long, ruled-ok, proper-prefix, proper-base, proper-ok}
use Rattle.account.proofs.Spelled.{spelled-alone, spelled-both}
use Rattle.account.proofs.Zeros.{account-payer}

-- no dash among digits
free : (n : ℕ) → Free dash (decimal n)
unfolding is_digit pick
free n = digit-free 45 (decimal n) (decimal-plain n) refl

module _ (p b : ℕ) (hp : p < 1000000) (hb : b < 10000000000) (ok : account_ok p b ≡ true) where
  base-two : 2 ≤ length (decimal b)
  base-two = decimal-least 1 b (omega arith) (omega (arith, ok-long p b ok))

  base-ten : length (decimal b) ≤ 10
  base-ten = decimal-most 10 b (omega arith) (omega arith)

  two : 2 ≤ length (spell_account (account p b))
  two =
      by-eq p 0
      (λ e. rw (spelled-alone p b e) base-two)
      (λ n. rw (spelled-both p b n) (omega (arith, length-append (decimal p) (45 ∷ decimal b), base-two)))

  module _ (joined : Bool) (least : ℕ) (l : least ≤ 2) where
    base_back : with_base least p (decimal b) ≡ value (account p b)
    unfolding with_base
    base_back =
        given-on (λ base. ruled p base) (digits least 10 (decimal b)) b (decimal-back-from least 10 b (omega arith) (omega arith) (omega arith) (omega (arith, base-two)))
        ∙ ruled-ok p b ok

    alone-back : p ≡ 0 → read_account joined least (decimal b) ≡ value (account p b)
    unfolding read_account one_part with_base
    alone-back e =
        pick-false _ _ (le-ltb (seek dash (decimal b)) (length (decimal b)) (omega (arith, free b)))
        ∙ pick-false _ _ (either (λ x. x ≡ false) joined (λ z. le-ltb 10 (length (decimal b)) base-ten) (λ z. refl))
        ∙ ap (λ (q : ℕ). with_base least q (decimal b)) (sym e)
        ∙ base_back

    parts_back : two_parts least (decimal p) (decimal b) ≡ value (account p b)
    unfolding two_parts with_base
    parts_back =
        given-on (λ prefix. with_base least prefix (decimal b)) (digits 1 6 (decimal p)) p (decimal-back 6 p (omega arith) (omega arith) (omega arith))
        ∙ base_back

    both-back : read_account joined least (decimal p ++ (45 ∷ decimal b)) ≡ value (account p b)
    unfolding read_account all
    both-back =
        let s : List ℕ = decimal p ++ (45 ∷ decimal b) in
        let k : seek dash s ≡ length (decimal p) = seek-join 45 [] refl (decimal p) (decimal b) (free p) in
        let x : before dash s ≡ decimal p = rw k (take-append_seam (decimal p) (45 ∷ decimal b)) in
        let y : drop (seek dash s + 1) s ≡ decimal b = rw k (drop-append-add (decimal p) (45 ∷ decimal b) 1) in
        pick_true _ _ (lt-ltb (seek dash s) (length s) (omega (arith, length-append (decimal p) (45 ∷ decimal b))))
        ∙ rw (x, y) parts_back

    back : read_account joined least (spell_account (account p b)) ≡ value (account p b)
    back = by-eq p 0 (λ e. rw (spelled-alone p b e) (alone-back e)) (λ n. rw (spelled-both p b n) both-back)

module _ (a : Account) (h : account_proper a ≡ true) where
  pub spell-account-least : 2 ≤ length (spell_account a)
  spell-account-least = two a.prefix a.base (proper-prefix a h) (proper-base a h) (proper-ok a h)

  module _ (joined : Bool) (least : ℕ) (l : least ≤ 2) where
    pub account-back : read_account joined least (spell_account a) ≡ value a
    account-back = back a.prefix a.base (proper-prefix a h) (proper-base a h) (proper-ok a h) joined least l

    pub payer-back : (empty allzero : Bool) → read_payer empty allzero joined least (spell_account a) ≡ value a
    payer-back = account-payer joined least (spell_account a) a account-back

-- an empty field, where it means nobody
pub payer-empty : (allzero joined : Bool) (least : ℕ) → read_payer true allzero joined least [] ≡ value nobody
unfolding read_payer null pick
payer-empty allzero joined least = refl

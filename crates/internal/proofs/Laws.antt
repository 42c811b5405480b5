-- What holds of the internal form, W-204: it and its inverse undo each other, and so do reading and spelling. Assumes nothing.
use mathlib.Core.Path.{◌≡◌, refl, ap, ◌∙◌}
use mathlib.Core.Bool.{true}
use mathlib.Core.List.{List, ◌++◌}
use Prim.Native.Nat.{ℕ, ◌<◌}
use native.Mathlib.Omega.{arith}
use lib.ListN.{length, length-append}
use Rattle.base.specs.Pick.{pick}
use Rattle.base.specs.Seek.{all}
use Rattle.base.proofs.Lists.{drop-none}
use Rattle.paper.specs.Read.{value, fault}
use Rattle.paper.specs.Bytes.{is_digit}
use Rattle.paper.specs.Numerals.{digits, fixed}
use Rattle.paper.specs.Accounts.{Account}
use Rattle.numeral.proofs.Fixed.{fixed-length}
use Rattle.numeral.proofs.Sound.{digits-least, digits-most, digits-reads}
use Rattle.numeral.proofs.given.Given.{given-on, given-value}
use Rattle.gpc.specs.Parts.{or51}
use Rattle.gpc.specs.Internal.{taken, inside, outside, internal, edited, account_of, read_internal, spell_internal}
use Rattle.internal.proofs.Places.{taken-length, taken_twice, count, taken-count, taken-all}
use Rattle.internal.proofs.Parts.{parts-plain, parts-small, parts-spelled, parts-read, parts_back, refused-by, accepted-by, no_other}

-- ---- sixteen elements, digits or not, in one order and back

module _ (d : List ℕ) (long : length d ≡ 16) where
  pub in-out : edited (internal d) ≡ d
  unfolding taken internal edited all pick count
  in-out = taken_twice outside inside d refl ∙ taken-count 16 0 d (omega arith) ∙ drop-none d

  pub out-in : internal (edited d) ≡ d
  unfolding taken internal edited all pick count
  out-in = taken_twice inside outside d refl ∙ taken-count 16 0 d (omega arith) ∙ drop-none d

  -- digits stay digits
  pub digits_in : all is_digit d ≡ true → all is_digit (internal d) ≡ true
  unfolding internal all pick
  digits_in h = taken-all is_digit inside d (rw long refl) h

  pub digits-out : all is_digit d ≡ true → all is_digit (edited d) ≡ true
  unfolding edited all pick
  digits-out h = taken-all is_digit outside d (rw long refl) h

-- ---- reading

module _ (s : List ℕ) where
  -- what the edited digits say is what is read
  pub refused : (n : ℕ) → account_of (edited s) ≡ fault n → read_internal s ≡ fault 51
  unfolding read_internal
  refused n e = refused-by (digits 16 16 s) (account_of (edited s)) n e

  pub accepted : (a : Account) → length s ≡ 16 → account_of (edited s) ≡ value a → read_internal s ≡ value a
  unfolding read_internal or51 edited
  accepted a long e =
      let p : all is_digit s ≡ true = rw (out-in s long) at (digits_in (edited s) (taken-length outside s) (parts-plain (edited s) a e)) in
      let r = digits-reads 16 16 s p (omega arith) (omega arith) in
      ap or51 (given-on (λ _. account_of (edited s)) (digits 16 16 s) r.0 r.1 ∙ e)

  -- any sixteen digits are an account, and a refusal has one number
  pub any-sixteen : length s ≡ 16 → all is_digit s ≡ true → (a : Account) × (read_internal s ≡ value a)
  unfolding edited
  any-sixteen long h =
      let r = parts-read (edited s) (taken-length outside s) (digits-out s long h) in
      (r.0, accepted r.0 long r.1)

  pub only-51 : (n : ℕ) → read_internal s ≡ fault n → n ≡ 51
  unfolding read_internal
  only-51 n e = no_other _ n e

  module _ (a : Account) (h : read_internal s ≡ value a) where
    said : (n : ℕ) × (digits 16 16 s ≡ value n) × (account_of (edited s) ≡ value a)
    unfolding read_internal
    said = given-value _ (digits 16 16 s) a (accepted-by _ a h)

    -- what is read has a small prefix and a small base,
    pub sound : (a.prefix < 1000000) × (a.base < 10000000000)
    sound = parts-small (edited s) a said.2

    -- and is spelled so: an account has one spelling only
    pub spelled : spell_internal a ≡ s
    unfolding spell_internal
    spelled =
        let long : length s ≡ 16 = omega (arith, digits-least 16 16 s said.0 said.1, digits-most 16 16 s said.0 said.1) in
        ap internal (parts-spelled (edited s) a said.2) ∙ out-in s long

-- ---- what is spelled has sixteen bytes, and is read back

pub account-length : (a : Account) → length (spell_internal a) ≡ 16
unfolding spell_internal internal
account-length a = taken-length inside (fixed 6 a.prefix ++ fixed 10 a.base)

pub back : (a : Account) → a.prefix < 1000000 → a.base < 10000000000 → read_internal (spell_internal a) ≡ value a
unfolding spell_internal internal
back a hp hb =
    let t : List ℕ = fixed 6 a.prefix ++ fixed 10 a.base in
    let long : length t ≡ 16 = omega (arith, length-append (fixed 6 a.prefix) (fixed 10 a.base), fixed-length 6 a.prefix, fixed-length 10 a.base) in
    accepted (internal t) a (taken-length inside t) (rw (in-out t long) (parts_back a.prefix a.base hp hb))

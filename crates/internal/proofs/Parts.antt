-- Six digits and ten as an account, in the edited order: what was read of them, how they are spelled, and read back; and the number of a
-- refusal. Assumes nothing.
use mathlib.Core.Path.{◌≡◌, refl, sym, ap, ◌∙◌}
use mathlib.Core.Bool.{true}
use mathlib.Core.List.{List, ◌++◌}
use Prim.Native.Nat.{ℕ, ◌<◌}
use native.Mathlib.Omega.{arith}
use lib.ListN.{length, take, drop, length-drop, take-append-drop}
use lib.Seq.{take-append_seam, drop-append_seam, length-take-le}
use Rattle.base.specs.Seek.{all}
use Rattle.base.proofs.Seek.{all_append, all_take, all_drop}
use Rattle.paper.specs.Read.{Field, value, fault, given}
use Rattle.paper.specs.Bytes.{is_digit}
use Rattle.paper.specs.Numerals.{digits, fixed}
use Rattle.paper.specs.Accounts.{Account, account}
use Rattle.numeral.proofs.Fixed.{fixed-length}
use Rattle.numeral.proofs.Back.{fixed_back}
use Rattle.numeral.proofs.Sound.{digits-plain, digits-sound, digits-reads}
use Rattle.numeral.proofs.given.Given.{value-fault, value_same, given-value}
use Rattle.gpc.specs.Parts.{or51}
use Rattle.gpc.specs.Internal.{account_of}
use Rattle.internal.proofs.Numbers.{digits-spelled}

-- ---- digits that are an account

module _ (e : List ℕ) (a : Account) (h : account_of e ≡ value a) where
  parts : (p b : ℕ) × (digits 6 6 (take 6 e) ≡ value p) × (digits 10 10 (drop 6 e) ≡ value b) × (account p b ≡ a)
  unfolding account_of
  parts =
      let x = given-value _ (digits 6 6 (take 6 e)) a h in
      let y = given-value _ (digits 10 10 (drop 6 e)) a x.2 in
      (x.0, y.0, x.1, y.1, value_same _ a y.2)

  prefix-read : digits 6 6 (take 6 e) ≡ value a.prefix
  prefix-read = parts.2 ∙ ap (λ (c : Account). value c.prefix) parts.4

  base_read : digits 10 10 (drop 6 e) ≡ value a.base
  base_read = parts.3 ∙ ap (λ (c : Account). value c.base) parts.4

  pub parts-plain : all is_digit e ≡ true
  parts-plain =
      rw take-append-drop at
      (all_append is_digit (take 6 e) (drop 6 e) (digits-plain 6 6 (take 6 e) a.prefix prefix-read) (digits-plain 10 10 (drop 6 e) a.base base_read))

  pub parts-small : (a.prefix < 1000000) × (a.base < 10000000000)
  parts-small =
      (omega (arith, digits-sound 6 6 (take 6 e) a.prefix prefix-read), omega (arith, digits-sound 10 10 (drop 6 e) a.base base_read))

  pub parts-spelled : fixed 6 a.prefix ++ fixed 10 a.base ≡ e
  parts-spelled =
      rw (digits-spelled 6 (take 6 e) a.prefix prefix-read, digits-spelled 10 (drop 6 e) a.base base_read) (take-append-drop 6 e)

-- sixteen digits are one
pub parts-read : (e : List ℕ) → length e ≡ 16 → all is_digit e ≡ true → (a : Account) × (account_of e ≡ value a)
unfolding account_of given
parts-read e long h =
    let l : length (take 6 e) ≡ 6 = length-take-le 6 e (omega arith) in
    let m : length (drop 6 e) ≡ 10 = omega (arith, length-drop 6 e) in
    let x = digits-reads 6 6 (take 6 e) (all_take is_digit 6 e h) (omega arith) (omega arith) in
    let y = digits-reads 10 10 (drop 6 e) (all_drop is_digit 6 e h) (omega arith) (omega arith) in
    (account x.0 y.0, rw (x.1, y.1) refl)

-- and those of a spelled one are it
pub parts_back : (p b : ℕ) → p < 1000000 → b < 10000000000 → account_of (fixed 6 p ++ fixed 10 b) ≡ value (account p b)
unfolding account_of given
parts_back p b hp hb =
    let t : List ℕ = fixed 6 p ++ fixed 10 b in
    let x : take 6 t ≡ fixed 6 p = rw (fixed-length 6 p) at (take-append_seam (fixed 6 p) (fixed 10 b)) in
    let y : drop 6 t ≡ fixed 10 b = rw (fixed-length 6 p) at (drop-append_seam (fixed 6 p) (fixed 10 b)) in
    rw (x, y, fixed_back 6 p (omega arith), fixed_back 10 b (omega arith)) refl

-- ---- a refusal of any number is one with 51

pub refused-by : (x : Field ℕ) (y : Field Account) (n : ℕ) → y ≡ fault n → or51 (given x (λ _. y)) ≡ fault 51
unfolding or51 given
refused-by (value v) y n e = rw e
refused-by (fault m) y n e = refl

pub accepted-by : {A : Type 0} (x : Field A) (a : A) → or51 x ≡ value a → x ≡ value a
unfolding or51
accepted-by (value b) a e = e
accepted-by (fault n) a e = value-fault a 51 (sym e)

pub no_other : (x : Field Account) (n : ℕ) → or51 x ≡ fault n → n ≡ 51
unfolding or51
no_other (value b) n e = value-fault b n e
no_other (fault m) n e = cc

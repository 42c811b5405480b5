-- Digits and the sign behind them, read at a place; two such fields in a row. Assumes nothing.
use mathlib.Core.Path.{◌≡◌, refl, sym, ap, ◌∙◌}
use mathlib.Core.Bool.{Bool, true, false}
use mathlib.Core.List.{List, [], ◌∷◌}
use Prim.Native.Nat.{ℕ, ◌+◌, ◌≤◌}
use native.Mathlib.Omega.{arith}
use lib.ListN.{length, get_or}
use borrow.Author.Tests.{eq-eqb, ne_eqb}
use Rattle.std.specs.Prelude.{Result, Ok, Err}
use Rattle.base.specs.Pick.{pick}
use Rattle.refusal.specs.declared.Refusal.{Refusal}
use Rattle.refusal.specs.declared.Flaw.{Flaw}
use Rattle.refusal.specs.Numbers.{number_of}
use Rattle.paper.specs.Batch.{most14}
use Rattle.paper.specs.Read.{Field, value, fault}
use Rattle.paper.specs.Numerals.{digits}
use Rattle.paper.specs.Entries.{Said, got, no, on_field}
use Rattle.numeral.specs.Told.{told}
use Rattle.numeral.proofs.Sound.{digits-sound}
use Rattle.gpc.specs.Parts.{slice, or51}
use Rattle.gpc.specs.Signed.{Signed as Number, signed, read_digits, read_minus, on_signed}
use Rattle.turnover.specs.declared.signed.Signed.{Signed}
use Rattle.turnover.specs.signed.Told.{said}
use Rattle.record.specs.file.Told.{told_signed, SmallSigned, Two, two, pair_at}
use Rattle.record.proofs.file.Fields.{one_byte}

-- ---- `read_signed`: m is what the digits say

module _ (plus at : ℕ) (s : List ℕ) (m : Result ℕ Refusal) (g : told m ≡ digits 14 14 (slice at 14 s)) where
  pub no-digits : (n : Refusal) → m ≡ Err n → no 51 at ≡ on_signed plus at s got
  unfolding on_signed on_field read_digits or51
  no-digits n e = rw (← g, e) refl

  module _ (v : ℕ) (e : m ≡ Ok v) where
    read : digits 14 14 (slice at 14 s) ≡ value v
    read = sym g ∙ ap told e

    module _ (inside : at + 15 ≤ length s) where
      abbrev sign : ℕ
      sign = get_or s (at + 14) 0

      behind : slice (at + 14) 1 s ≡ sign ∷ []
      behind = one_byte s (at + 14) (omega arith)

      pub minus-read : (x : Signed) → sign ≡ 45 → said x ≡ signed true v → got (said x) ≡ on_signed plus at s got
      unfolding on_signed on_field read_digits or51 read_minus pick
      minus-read x f h = rw (read, behind, eq-eqb sign 45 f, h) refl

      pub plus-read : (x : Signed) → (sign ≡ 45 → ⊥) → sign ≡ plus → said x ≡ signed false v → got (said x) ≡ on_signed plus at s got
      unfolding on_signed on_field read_digits or51 read_minus pick
      plus-read x n f h = rw (read, behind, ne_eqb sign 45 n, eq-eqb sign plus f, h) refl

      pub no_sign : (sign ≡ 45 → ⊥) → (sign ≡ plus → ⊥) → no 51 (at + 14) ≡ on_signed plus at s got
      unfolding on_signed on_field read_digits or51 read_minus pick
      no_sign n f = rw (read, behind, ne_eqb sign 45 n, ne_eqb sign plus f) refl

    pub small-read : (x : Signed) (b : Bool) → said x ≡ signed b v → x.size ≤ most14
    unfolding signed
    small-read x b h =
        let q : x.size ≡ v = ap (λ (y : Number). y.size) h in
        omega (arith, digits-sound 14 14 (slice at 14 s) v read)

pub ruleset signing = (no-digits, minus-read, plus-read, no_sign, small-read)

-- ---- what was read goes on, and a refusal stays: two readers of what stands behind a field agree on it

on_value : {A B C : Type 0} (at : ℕ) (f : Field A) (k : A → Said B) (l : A → Said C) (c : C) (K : Said B)
    → ((a : A) → l a ≡ got c → k a ≡ K) → on_field at f l ≡ got c → on_field at f k ≡ K
unfolding on_field
on_value at (value a) k l c K h e = h a e
on_value at (fault n) k l c K h e = absurd (let z : ◌≡◌ {A = ℕ} 0 1 = cc in omega arith)

on-fault : {A B C : Type 0} (at : ℕ) (f : Field A) (k : A → Said B) (l : A → Said C) (n off : ℕ)
    → ((a : A) → l a ≡ no n off → k a ≡ no n off) → on_field at f l ≡ no n off → on_field at f k ≡ no n off
unfolding on_field
on-fault at (value a) k l n off h e = h a e
on-fault at (fault m) k l n off h e = cc

module _ {B C : Type 0} (plus at : ℕ) (s : List ℕ) (k : Number → Said B) (l : Number → Said C) where
  signed-value : (c : C) (K : Said B) → ((x : Number) → l x ≡ got c → k x ≡ K) → on_signed plus at s l ≡ got c → on_signed plus at s k ≡ K
  unfolding on_signed
  signed-value c K h = on_value at _ _ _ c K (λ n. on_value (at + 14) _ _ _ c K (λ b. h (signed b n)))

  signed-fault : (n off : ℕ) → ((x : Number) → l x ≡ no n off → k x ≡ no n off) → on_signed plus at s l ≡ no n off → on_signed plus at s k ≡ no n off
  unfolding on_signed
  signed-fault n off h = on-fault at _ _ _ n off (λ m. on-fault (at + 14) _ _ _ n off (λ b. h (signed b m)))

module _ {B : Type 0} (plus at : ℕ) (s : List ℕ) (k : Number → Said B) where
  signed-goes : (y : Number) → got y ≡ on_signed plus at s got → on_signed plus at s k ≡ k y
  signed-goes y e =
      signed-value plus at s k got y (k y) (λ x h. let same : x ≡ y = cc in ap k same) (sym e)

  signed-stays : (n off : ℕ) → no n off ≡ on_signed plus at s got → on_signed plus at s k ≡ no n off
  signed-stays n off e =
      signed-fault plus at s k got n off (λ x h. absurd (let z : ◌≡◌ {A = ℕ} 0 1 = cc in omega arith)) (sym e)

-- ---- `read_pair`: m and w are what the two fields say

module _ (plus at : ℕ) (s : List ℕ) (m : Result Signed Flaw) (g : told_signed m ≡ on_signed plus at s got) where
  pub first-refused : (f : Flaw) → m ≡ Err f → no (number_of f.0) f.1 ≡ pair_at plus at s
  unfolding pair_at
  first-refused f e = sym (signed-stays plus at s _ (number_of f.0) f.1 (rw e at g))

  module _ (x : Signed) (e : m ≡ Ok x) (w : Result Signed Flaw) (h : told_signed w ≡ on_signed plus (at + 15) s got) where
    first : {B : Type 0} (k : Number → Said B) → on_signed plus at s k ≡ k (said x)
    first k = signed-goes plus at s k (said x) (rw e at g)

    pub second-refused : (f : Flaw) → w ≡ Err f → no (number_of f.0) f.1 ≡ pair_at plus at s
    unfolding pair_at
    second-refused f d = sym (first _ ∙ signed-stays plus (at + 15) s _ (number_of f.0) f.1 (rw d at h))

    pub pair_read : (y : Signed) → w ≡ Ok y → got (two (said x) (said y)) ≡ pair_at plus at s
    unfolding pair_at
    pair_read y f = sym (first _ ∙ signed-goes plus (at + 15) s _ (said y) (rw f at h))

pub number_small : (m : Result Signed Flaw) (x : Signed) → SmallSigned m → m ≡ Ok x → x.size ≤ most14
number_small m x h e = rw e at h

pub ruleset pairing = (first-refused, second-refused, pair_read, number_small)

-- ---- .. and a pair

module _ {B : Type 0} (plus at : ℕ) (s : List ℕ) (k : Number → Number → Said B) where
  abbrev pub on_pair : Said B
  on_pair = on_signed plus at s λ x. on_signed plus (at + 15) s λ y. k x y

  pub pair_goes : (x y : Number) → got (two x y) ≡ pair_at plus at s → on_pair ≡ k x y
  unfolding pair_at
  pair_goes x y e =
      signed-value plus at s _ _ (two x y) (k x y)
      (λ a. signed-value plus (at + 15) s _ _ (two x y) (k x y)
      (λ b h. let same : two a b ≡ two x y = cc in ap (λ (t : Two). k t.first t.second) same))
      (sym e)

  pub pair-stays : (n off : ℕ) → no n off ≡ pair_at plus at s → on_pair ≡ no n off
  unfolding pair_at
  pair-stays n off e =
      signed-fault plus at s _ _ n off
      (λ a. signed-fault plus (at + 15) s _ _ n off (λ b h. absurd (let z : ◌≡◌ {A = ℕ} 0 1 = cc in omega arith)))
      (sym e)

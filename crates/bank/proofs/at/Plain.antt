-- What the plain bank field says, and how its bytes are tested. Assumes nothing.
use mathlib.Core.Path.{◌≡◌, refl, sym, ◌∙◌}
use mathlib.Core.Bool.{Bool, true, false}
use mathlib.Core.List.{List, [], ◌∷◌}
use Prim.Native.Nat.{ℕ, ◌+◌, ◌-◌, ◌*◌, ◌/◌, ◌%◌, ◌≤◌}
use native.Mathlib.Omega.{arith}
use lib.Dec.{eqb}
use lib.ListN.{length, get_or, take, drop, take-append-drop, length-take, length-drop}
use lib.Seq.{drop-drop, take-take}
use borrow.Author.Tests.{eq-eqb, ne_eqb, le-ltb}
use Rattle.base.specs.Pick.{pick}
use Rattle.base.specs.Seek.{all, seek}
use Rattle.base.proofs.Cases.{by-test, pick-false}
use Rattle.base.proofs.Seek.{never, all_cons, all_take, all_drop, seek-over}
use Rattle.paper.specs.Read.{value, given}
use Rattle.paper.specs.Bytes.{is_digit, space, field_of, null}
use Rattle.paper.specs.Numerals.{digits_on, digits}
use Rattle.paper.specs.BankField.{ninth, read_bank}
use Rattle.numeral.proofs.Digits.{in-range}
use Rattle.numeral.proofs.Plain.{digit-range}
use Rattle.numeral.proofs.Sound.{same, on-head, on-tail, read-on, digits-sound, digits-reads}
use Rattle.numeral.proofs.Split.{digits-split}
use Rattle.numeral.specs.Zero.{is_zero}
use Rattle.numeral.proofs.placed.Bytes.{fours}
use Rattle.numeral.specs.field.At.{found, ending, field_at}
use Rattle.numeral.proofs.field.Front.{field-ends}
use Rattle.numeral.specs.field.Kept.{keeping}
use Rattle.bank.specs.at.Warned.{warnings_of}
use Rattle.bank.specs.at.Plain.{PlainBank}

-- ---- its bytes

-- four bytes at `at`
module _ (s : List ℕ) (at : ℕ) (l : at + 4 ≤ length s) where
  pub zeros-first : (get_or s at 0 ≡ 48 → ⊥) → false ≡ all is_zero (take 4 (drop at s))
  unfolding all pick
  zeros-first n = rw (fours s at l) (simp (ne_eqb _ _ n))

  module _ (a : get_or s at 0 ≡ 48) where
    pub zeros-second : (get_or s (at + 1) 0 ≡ 48 → ⊥) → false ≡ all is_zero (take 4 (drop at s))
    unfolding all pick
    zeros-second n = rw (fours s at l) (simp (eq-eqb _ _ a, ne_eqb _ _ n))

    module _ (b : get_or s (at + 1) 0 ≡ 48) where
      pub zeros-third : (get_or s (at + 2) 0 ≡ 48 → ⊥) → false ≡ all is_zero (take 4 (drop at s))
      unfolding all pick
      zeros-third n = rw (fours s at l) (simp (eq-eqb _ _ a, eq-eqb _ _ b, ne_eqb _ _ n))

      pub zeros-last : get_or s (at + 2) 0 ≡ 48 → eqb (get_or s (at + 3) 0) 48 ≡ all is_zero (take 4 (drop at s))
      unfolding all pick
      zeros-last c = rw (fours s at l) (simp (eq-eqb _ _ a, eq-eqb _ _ b, eq-eqb _ _ c) (by-test (eqb (get_or s (at + 3) 0) 48) (λ e. simp e) (λ e. simp e)))

pub ruleset zeros = (zeros-first, zeros-second, zeros-third, zeros-last)

-- ---- a number of zeros

zeros-on : (u : ℕ) (t : List ℕ) → digits_on u t ≡ value 0 → (u ≡ 0) × (all is_zero t ≡ true)
unfolding digits_on all
zeros-on u [] h = (same u 0 h, refl)
zeros-on u (x ∷ t) h =
    let r = zeros-on (u * 10 + (x - 48)) t (on-tail u x t 0 h) in
    let z = r.0 in
    let g = digit-range x (on-head u x t 0 h) in
    (omega arith, all_cons is_zero x t (eq-eqb x 48 (omega arith)) r.1)

-- ---- what it says

-- a ninth digit that is missing counts as 0, and gives no warning
no_warning : (ranked : Bool) (b c e : ℕ) → found 0 e ≡ keeping warnings_of (ending e (ninth ranked 0 b c))
unfolding ninth keeping ending pick
no_warning true b c e = refl
no_warning false b c e = refl

-- eight digits f, the first four not all 0
module _ (f : List ℕ) (n : length f ≡ 8) (h : all is_digit f ≡ true) (z : all is_zero (take 4 f) ≡ false) where
  -- the number of the first four, which is the bank, and that of the last four
  module _ (p q : ℕ) (a : digits 4 4 (take 4 f) ≡ value p) (b : digits 4 4 (drop 4 f) ≡ value q) where
    is_some : p ≡ 0 → ⊥
    is_some y = never (sym (zeros-on 0 (take 4 f) (rw y at (read-on 4 4 (take 4 f) p a))).1 ∙ z)

    eight : digits 8 10 f ≡ value (p * 10000 + q)
    eight =
        let j = rw (take-append-drop 4 f) at (digits-split 4 4 (take 4 f) (drop 4 f) p q a b) in
        in-range 8 10 f (omega arith) (omega arith) ∙ read-on 8 8 f (p * 10000 + q) j

    reads : (ranked : Bool) → read_bank ranked f ≡ ninth ranked 0 p q
    unfolding read_bank given
    reads ranked =
        let i = digits-sound 4 4 (take 4 f) p a in
        let k = digits-sound 4 4 (drop 4 f) q b in
        let eb : (p * 10000 + q) / 10000 % 10000 ≡ p = omega arith in
        let ed : (p * 10000 + q) / 100000000 ≡ 0 = omega arith in
        let ec : (p * 10000 + q) % 10000 ≡ q = omega arith in
        rw (eight, eb, ed, ec) (pick-false _ _ (ne_eqb p 0 is_some) ∙ pick-false _ _ (le-ltb 999999999 (p * 10000 + q) (omega arith)))

  plain-reads : (ranked : Bool) (e : ℕ) → found 0 e ≡ keeping warnings_of (ending e (read_bank ranked f))
  plain-reads ranked e =
      let a = digits-reads 4 4 (take 4 f) (all_take is_digit 4 f h) (omega (arith, length-take 4 f)) (omega (arith, length-take 4 f)) in
      let b = digits-reads 4 4 (drop 4 f) (all_drop is_digit 4 f h) (omega (arith, length-drop 4 f)) (omega (arith, length-drop 4 f)) in
      rw (reads a.0 b.0 a.1 b.1 ranked) (no_warning ranked a.0 b.0 e)

plain-field : (s : List ℕ) (at : ℕ) → PlainBank s at → (ranked : Bool) → found 0 (at + 8) ≡ keeping warnings_of (field_at (read_bank ranked) s at)
unfolding field_at is_digit pick
plain-field s at b ranked =
    let l = b.long in
    let f : List ℕ = take 8 (drop at s) in
    let o = seek-over is_digit 32 refl 8 (drop at s) (omega (arith, length-drop at s)) b.plain in
    let d : seek space (drop 8 (drop at s)) ≡ 0 = rw (drop-drop 8 at s) (field-ends (drop (at + 8) s) b.ends) in
    let e : seek space (drop at s) ≡ 8 = omega arith in
    let z : all is_zero (take 4 (take 8 (drop at s))) ≡ false = rw (take-take 4 8 (drop at s) (omega arith)) b.some in
    rw e (plain-reads (take 8 (drop at s)) (omega (arith, length-take 8 (drop at s), length-drop at s)) b.plain z ranked (at + 8))

-- ---- the test for it: t is what `plain_bank` answered

pub not_plain : (s : List ℕ) (at : ℕ) → false ≡ true → PlainBank s at
not_plain s at e = never (sym e)

-- z, t and u are what was asked of the first four bytes, of the field's end and of all eight bytes
module _ (s : List ℕ) (at : ℕ) (l : at ≤ length s) (m : 8 ≤ length s - at) (z t u : Bool) where
  pub is-plain : z ≡ all is_zero (take 4 (drop at s)) → z ≡ false → t ≡ null (field_of (drop (at + 8) s)) → t ≡ true → u ≡ all is_digit (take 8 (drop at s)) → u ≡ true → PlainBank s at
  is-plain a b c d f e = record { long = omega arith; plain = sym f ∙ e; some = sym a ∙ b; ends = sym c ∙ d }

module _ (s : List ℕ) (at : ℕ) (t : Bool) (h : t ≡ true → PlainBank s at) (y : t ≡ true) where
  pub plain-bank : (ranked : Bool) → found 0 (at + 8) ≡ keeping warnings_of (field_at (read_bank ranked) s at)
  plain-bank ranked = plain-field s at (h y) ranked

-- The field of payee bank, constant symbol and priority that stands at a place: where its last eight digits begin, and what they give.
-- Assumes nothing.
use mathlib.Core.Path.{◌≡◌, sym}
use mathlib.Core.Bool.{Bool, true, false}
use mathlib.Core.List.{List}
use Prim.Native.Nat.{ℕ, ◌+◌, ◌-◌, ◌/◌, ◌%◌, ◌≤◌, ◌<◌}
use native.Mathlib.Omega.{arith}
use lib.Dec.{eqb, ltb}
use lib.ListN.{length, get_or, take, drop, length-drop}
use borrow.Author.Tests.{lt-ltb, le-ltb, eqb-true, ltb-false}
use Rattle.base.specs.Pick.{pick}
use Rattle.base.specs.Seek.{seek}
use Rattle.base.proofs.Cases.{by-test, by-lt}
use Rattle.base.proofs.Seek.{seek-le}
use Rattle.paper.specs.Read.{value, fault}
use Rattle.paper.specs.Bytes.{space, field_of}
use Rattle.paper.specs.Numerals.{digits}
use Rattle.paper.specs.BankField.{Bank, ninth, read_bank}
use Rattle.paper.specs.ItemLine.{is_value}
use Rattle.numeral.proofs.Sound.{digits-least, digits-most, digits-sound, digits-below}
use Rattle.numeral.proofs.given.Given.{value-fault, value_same, given-value}
use Rattle.numeral.specs.field.At.{found, field_at}
use Rattle.numeral.proofs.field.Front.{field-long, split-byte, part-byte}
use Rattle.numeral.specs.placed.Placed.{Placed}
use Rattle.numeral.proofs.placed.Placed.{placed-part, field-placed, field-part, field-among, one-low}
use Rattle.numeral.proofs.placed.Parts.{some-value, at_value}

-- ---- eight to ten digits at `at`, up to a space or the line's end

module _ (s : List ℕ) (at : ℕ) (l : at ≤ length s) (k : is_value (digits 8 10 (field_of (drop at s))) ≡ true) where
  abbrev n : ℕ
  n = (some-value (digits 8 10 (field_of (drop at s))) k).0

  read : digits 8 10 (field_of (drop at s)) ≡ value n
  read = (some-value (digits 8 10 (field_of (drop at s))) k).1

  least : 8 ≤ seek space (drop at s)
  least = omega (arith, digits-least 8 10 (field_of (drop at s)) n read, field-long (drop at s))

  most : seek space (drop at s) ≤ 10
  most = omega (arith, digits-most 8 10 (field_of (drop at s)) n read, field-long (drop at s))

  inside : at + seek space (drop at s) ≤ length s
  inside = omega (arith, seek-le space (drop at s), length-drop at s)

  -- a byte within the field is a digit, that behind it a space
  within : (i : ℕ) → i < seek space (drop at s) → 48 ≤ get_or s (at + i) 0
  within i h = one-low s (at + i) (placed-part 1 i (seek space (drop at s)) s at (omega arith) (field-placed 8 10 s at n l read))

  behind : at + seek space (drop at s) < length s → get_or s (at + seek space (drop at s)) 0 ≡ 32
  behind h =
      let m : seek space (drop at s) < length (drop at s) = omega (arith, length-drop at s) in
      rw (← (field-long (drop at s))) (part-byte s at (field_of (drop at s)) 32 _ (split-byte 32 (drop at s) m))

  -- so many digits, or more
  ends : (i : ℕ) → i ≤ seek space (drop at s) → get_or s (at + i) 0 ≤ 32 → at + i ≡ at + seek space (drop at s)
  ends i h low = by-lt i (seek space (drop at s)) (λ lt. absurd (omega (arith, within i lt))) (λ ge. omega arith)

  more : (i : ℕ) → i ≤ seek space (drop at s) → at + i < length s → 32 < get_or s (at + i) 0 → i < seek space (drop at s)
  more i h g high =
      by-lt i (seek space (drop at s)) (λ lt. lt)
      (λ ge.
      let e : i ≡ seek space (drop at s) = omega arith in
      absurd (omega (arith, rw (← e) at (behind (omega arith)))))

  pub from-end : length s ≤ at + 8 → at + 8 ≡ at + seek space (drop at s)
  from-end h = omega (arith, least, inside)

  pub from-space : get_or s (at + 8) 0 ≤ 32 → at + 8 ≡ at + seek space (drop at s)
  from-space low = ends 8 least low

  module _ (h : at + 8 < length s) (high : 32 < get_or s (at + 8) 0) where
    nine : 9 ≤ seek space (drop at s)
    nine = omega (arith, more 8 least h high)

    pub nine-end : length s ≤ at + 9 → at + 1 + 8 ≡ at + seek space (drop at s)
    nine-end g = omega (arith, nine, inside)

    pub nine-space : get_or s (at + 9) 0 ≤ 32 → at + 1 + 8 ≡ at + seek space (drop at s)
    nine-space low = omega (arith, ends 9 nine low)

    pub ten-digits : at + 9 < length s → 32 < get_or s (at + 9) 0 → at + 2 + 8 ≡ at + seek space (drop at s)
    ten-digits g top = omega (arith, more 9 nine g top, most)

  -- the digit before the last eight, which begin at `from`
  module _ (from : ℕ) (h : from + 8 ≡ at + seek space (drop at s)) where
    pub ninth-place : at < from → Placed 1 s (from - 1)
    ninth-place g = field-part 8 10 s at n l read 1 8 (from - 1) (omega arith) (omega arith)

    pub ninth-there : at < from → (d : ℕ) → digits 1 1 (take 1 (drop (from - 1) s)) ≡ value d → (m : ℕ) → digits 8 10 (field_of (drop at s)) ≡ value m → d ≡ m / 100000000 % 10
    ninth-there g d f m e =
        let a = field-among 8 10 s at m l e 1 8 (from - 1) (omega arith) (omega arith) d f in
        omega (arith, a.2, a.3, digits-sound 1 1 _ d f)

    pub ninth-none : from ≤ at → (m : ℕ) → digits 8 10 (field_of (drop at s)) ≡ value m → 0 ≡ m / 100000000 % 10
    ninth-none g m e =
        let z : length (field_of (drop at s)) ≡ 8 = omega (arith, field-long (drop at s), least) in
        omega (arith, rw z at (digits-below 8 10 (field_of (drop at s)) m e))

pub ruleset froms = (from-end, from-space, nine-end, nine-space, ten-digits)

pub ruleset ninths = (ninth-place, ninth-there, ninth-none)

-- ---- what the field says, by its ninth digit from the right, its bank and its constant symbol

unfoldable pub bank_by : ℕ → ℕ → ℕ → Bank
bank_by d b c = record { bank = b; constant = c; priority = pick (ltb d 3) 5 d; warnings = pick (ltb d 1) 0 (pick (ltb d 3) 1 0) }

module _ (n : ℕ) (x : Bank) where
  by-ninth : (ranked : Bool) → ninth ranked (n / 100000000) (n / 10000 % 10000) (n % 10000) ≡ value x → x ≡ bank_by (n / 100000000) (n / 10000 % 10000) (n % 10000)
  unfolding ninth bank_by pick
  by-ninth true e = sym (value_same _ _ e)
  by-ninth false e =
      by-test (eqb (n / 100000000) 0)
      (λ t.
      let z : n / 100000000 ≡ 0 = eqb-true (n / 100000000) 0 t in
      rw z (sym (value_same _ _ (simp t at e))))
      (λ t. value-fault x 13 (sym (simp t at e)))

  behind-digits : (ranked : Bool)
      → pick (eqb (n / 10000 % 10000) 0) (fault 12) (pick (ltb 999999999 n) (fault 13) (ninth ranked (n / 100000000) (n / 10000 % 10000) (n % 10000))) ≡ value x
      → (n ≤ 999999999) × (x ≡ bank_by (n / 100000000) (n / 10000 % 10000) (n % 10000))
  unfolding pick
  behind-digits ranked e =
      by-test (eqb (n / 10000 % 10000) 0)
      (λ t. value-fault x 12 (sym (simp t at e)))
      (λ t. by-test (ltb 999999999 n) (λ u. value-fault x 13 (sym (simp (t, u) at e))) (λ u. (ltb-false 999999999 n u, by-ninth ranked (simp (t, u) at e))))

-- ---- at its place in the line

module _ (ranked : Bool) (s : List ℕ) (at : ℕ) (k : is_value (read_bank ranked (field_of (drop at s))) ≡ true) where
  pub bank-digits : is_value (digits 8 10 (field_of (drop at s))) ≡ true
  unfolding read_bank is_value
  bank-digits =
      let x = some-value (read_bank ranked (field_of (drop at s))) k in
      let m = given-value _ (digits 8 10 (field_of (drop at s))) x.0 x.1 in
      rw m.1

  -- its last eight digits begin at `from`
  module _ (l : at ≤ length s) (from : ℕ) (h : from + 8 ≡ at + seek space (drop at s)) where
    abbrev m : (n : ℕ) × (digits 8 10 (field_of (drop at s)) ≡ value n)
    m = some-value (digits 8 10 (field_of (drop at s))) bank-digits

    begun : at ≤ from
    begun = omega (arith, least s at l bank-digits)

    pub eight-inside : from + 8 ≤ length s
    eight-inside = omega (arith, inside s at l bank-digits)

    pub bank-place : Placed 4 s from
    bank-place = field-part 8 10 s at m.0 l m.1 4 4 from begun (omega arith)

    pub constant-place : Placed 4 s (from + 4)
    constant-place = field-part 8 10 s at m.0 l m.1 4 0 (from + 4) (omega (arith, begun)) (omega arith)

    -- b, c and d are taken
    module _ (b c d : ℕ) (fb : digits 4 4 (take 4 (drop from s)) ≡ value b) (fc : digits 4 4 (take 4 (drop (from + 4) s)) ≡ value c)
        (fd : (n : ℕ) → digits 8 10 (field_of (drop at s)) ≡ value n → d ≡ n / 100000000 % 10) where
      module _ (n : ℕ) (e : digits 8 10 (field_of (drop at s)) ≡ value n) where
        bank-taken : b ≡ n / 10000 % 10000
        bank-taken =
            let a = field-among 8 10 s at n l e 4 4 from begun (omega arith) b fb in
            omega (arith, a.2, a.3, digits-sound 4 4 _ b fb)

        constant-taken : c ≡ n % 10000
        constant-taken =
            let a = field-among 8 10 s at n l e 4 0 (from + 4) (omega (arith, begun)) (omega arith) c fc in
            omega (arith, a.2, a.3, digits-sound 4 4 _ c fc)

        ninth-taken : n ≤ 999999999 → d ≡ n / 100000000
        ninth-taken g = omega (arith, fd n e)

      bank-at : (x : Bank) → read_bank ranked (field_of (drop at s)) ≡ value x → found (bank_by d b c) (from + 8) ≡ field_at (read_bank ranked) s at
      unfolding read_bank
      bank-at x f =
          let v = given-value _ (digits 8 10 (field_of (drop at s))) x f in
          let w = behind-digits v.0 x ranked v.2 in
          at_value (read_bank ranked) s at x (bank_by d b c) (from + 8) f
          (rw (ninth-taken v.0 v.1 w.0, bank-taken v.0 v.1, constant-taken v.0 v.1) (sym w.1))
          h

      bank-is : found (bank_by d b c) (from + 8) ≡ field_at (read_bank ranked) s at
      bank-is = let x = some-value (read_bank ranked (field_of (drop at s))) k in bank-at x.0 x.1

      -- the three answers
      abbrev bank_of : ℕ → ℕ → Bank
      bank_of p w = record { bank = b; constant = c; priority = p; warnings = w }

      pub bank-none : d < 1 → found (bank_of 5 0) (from + 8) ≡ field_at (read_bank ranked) s at
      unfolding bank_by pick
      bank-none g = simp (lt-ltb d 1 g, lt-ltb d 3 (omega arith)) at bank-is

      pub bank_low : 1 ≤ d → d < 3 → found (bank_of 5 1) (from + 8) ≡ field_at (read_bank ranked) s at
      unfolding bank_by pick
      bank_low u g = simp (le-ltb d 1 u, lt-ltb d 3 g) at bank-is

      pub bank-high : 3 ≤ d → found (bank_of d 0) (from + 8) ≡ field_at (read_bank ranked) s at
      unfolding bank_by pick
      bank-high u = simp (le-ltb d 1 (omega arith), le-ltb d 3 u) at bank-is

pub ruleset banks = (bank-digits, bank-place, constant-place, bank-none, bank_low, bank-high)

-- Prefix and base that stand at a place: what their digits give. Assumes nothing.
use mathlib.Core.Path.{◌≡◌, refl, sym}
use mathlib.Core.List.{List, ◌∷◌, ◌++◌}
use Prim.Native.Nat.{ℕ, ◌+◌, ◌/◌, ◌%◌, ◌<◌}
use native.Mathlib.Omega.{arith}
use mir.Val.{Fits}
use mir.Syntax.{w64}
use lib.Dec.{ltb}
use lib.ListN.{length, get_or, drop}
use borrow.Author.Tests.{ltb-true}
use Rattle.base.specs.Pick.{pick}
use Rattle.base.specs.Seek.{seek, before}
use Rattle.base.proofs.Cases.{by-test}
use Rattle.paper.specs.Read.{value, given}
use Rattle.paper.specs.Bytes.{is_digit, dash, field_of}
use Rattle.paper.specs.Numerals.{digits}
use Rattle.paper.specs.Accounts.{Account, account}
use Rattle.numeral.proofs.given.Given.{value_same, given-value}
use Rattle.numeral.specs.field.At.{found, field_at}
use Rattle.numeral.specs.declared.field.Run.{Run}
use Rattle.numeral.proofs.field.Front.{split-byte}
use Rattle.numeral.specs.placed.Known.{There, Stops, Ran}
use Rattle.account.specs.at.Numbers.{prefix_and_base}
use Rattle.numeral.proofs.placed.Parts.{some-value, at_value, one-stops, one_value, one_byte, one-whole, two-stops, two-first, two-byte, two-next, two-second, two-whole}

-- ---- the two shapes of a field w that spells a

data Shape (w : List ℕ) (a : Account) : Type 0 where
  two : (p b : List ℕ) (u v : ℕ) → w ≡ p ++ (45 ∷ b) → digits 1 6 p ≡ value u → digits 0 10 b ≡ value v → a ≡ account u v → Shape w a
  one : (v : ℕ) → digits 0 17 w ≡ value v → a ≡ account (v / 10000000000) (v % 10000000000) → Shape w a

numbers-shape : (w : List ℕ) (a : Account) → prefix_and_base w ≡ value a → Shape w a
unfolding prefix_and_base pick
numbers-shape w a e =
    by-test (ltb (seek dash w) (length w))
    (λ t.
    let p = before dash w in
    let b = drop (seek dash w + 1) w in
    let x = given-value (λ prefix. given (digits 0 10 b) λ base. value (account prefix base)) (digits 1 6 p) a (simp t at e) in
    let y = given-value (λ base. value (account x.0 base)) (digits 0 10 b) a x.2 in
    two p b x.0 y.0 (split-byte 45 w (ltb-true _ _ t)) x.1 y.1 (sym (value_same _ _ y.2)))
    (λ t.
    let x = given-value (λ n. value (account (n / 10000000000) (n % 10000000000))) (digits 0 17 w) a (simp t at e) in
    one x.0 x.1 (sym (value_same _ _ x.2)))

-- ---- at its place in the line

module _ (s : List ℕ) (at : ℕ) (h : There prefix_and_base s at) where
  abbrev w : List ℕ
  w = field_of (drop at s)

  abbrev Is : Account → Type 0
  Is a = (prefix_and_base w ≡ value a) × Shape w a

  -- the account that stands there
  there : (a : Account) × Is a
  there = let x = some-value (prefix_and_base w) h.says in (x.0, (x.1, numbers-shape w x.0 x.1))

  stops : (a : Account) → Is a → Stops s at
  unfolding is_digit pick
  stops a (e, two p b u v f x y i) = two-stops prefix_and_base s at h 45 (omega arith) refl p b f 1 6 u x (omega arith)
  stops a (e, one v x i) = one-stops prefix_and_base s at h 0 17 v x (omega arith)

  pub numbers-stops : Stops s at
  numbers-stops = stops there.0 there.1

  module _ (r : Run) (g : Ran s at r) where
    pub numbers-byte : r.end < length s
    numbers-byte = omega (arith, g.end, numbers-stops.inside)

    pub numbers-room : length s < 18446744073709551616 → Fits w64 (r.end + 1)
    numbers-room l = omega (arith, numbers-byte)

    module _ (d : get_or s r.end 0 ≡ 45) where
      next : (a : Account) → Is a → Stops s (r.end + 1)
      unfolding is_digit pick
      next a (e, two p b u v f x y i) = two-next prefix_and_base s at h 45 (omega arith) refl p b f 1 6 u x (omega arith) r g 0 10 v y (omega arith)
      next a (e, one v x i) = absurd (omega (arith, d, one_byte prefix_and_base s at h 0 17 v x (omega arith) r g))

      pub numbers-next : Stops s (r.end + 1)
      numbers-next = next there.0 there.1

      module _ (q : Run) (k : Ran s (r.end + 1) q) where
        both-are : (a : Account) → Is a → found (account r.value q.value) q.end ≡ field_at prefix_and_base s at
        unfolding is_digit pick
        both-are a (e, two p b u v f x y i) =
            let m = two-first prefix_and_base s at h 45 (omega arith) refl p b f 1 6 u x (omega arith) r g in
            let n = two-second prefix_and_base s at h 45 (omega arith) refl p b f 1 6 u x (omega arith) r g 0 10 v y (omega arith) q k in
            at_value prefix_and_base s at a _ q.end e (rw (m, n) (sym i))
            (two-whole prefix_and_base s at h 45 (omega arith) refl p b f 1 6 u x (omega arith) r g 0 10 v y (omega arith) q k)
        both-are a (e, one v x i) = absurd (omega (arith, d, one_byte prefix_and_base s at h 0 17 v x (omega arith) r g))

        pub numbers-two : found (account r.value q.value) q.end ≡ field_at prefix_and_base s at
        numbers-two = both-are there.0 there.1

    module _ (d : get_or s r.end 0 ≡ 45 → ⊥) where
      alone-is : (a : Account) → Is a → found (account (r.value / 10000000000) (r.value % 10000000000)) r.end ≡ field_at prefix_and_base s at
      unfolding is_digit pick
      alone-is a (e, two p b u v f x y i) = absurd (d (two-byte prefix_and_base s at h 45 (omega arith) refl p b f 1 6 u x (omega arith) r g))
      alone-is a (e, one v x i) =
          let m = one_value prefix_and_base s at h 0 17 v x (omega arith) r g in
          at_value prefix_and_base s at a _ r.end e (rw m (sym i)) (one-whole prefix_and_base s at h 0 17 v x (omega arith) r g)

      pub numbers-large : found (account (r.value / 10000000000) (r.value % 10000000000)) r.end ≡ field_at prefix_and_base s at
      numbers-large = alone-is there.0 there.1

      pub numbers-small : r.value < 10000000000 → found (account 0 r.value) r.end ≡ field_at prefix_and_base s at
      numbers-small l =
          let x : r.value / 10000000000 ≡ 0 = omega arith in
          let y : r.value % 10000000000 ≡ r.value = omega arith in
          rw (x, y) at numbers-large

pub ruleset numbers = (numbers-stops, numbers-byte, numbers-room, numbers-next, numbers-two, numbers-large, numbers-small)

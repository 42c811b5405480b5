-- The amount of an item that stands at a place: what its digits give. Assumes nothing.
use mathlib.Core.Path.{◌≡◌, refl, sym, ap, ◌∙◌}
use mathlib.Core.Bool.{Bool, false}
use mathlib.Core.List.{List, ◌∷◌, ◌++◌}
use Prim.Native.Nat.{ℕ, ◌+◌, ◌*◌, ◌≤◌, ◌<◌}
use native.Mathlib.Omega.{arith}
use mir.Val.{Fits}
use mir.Syntax.{w64}
use lib.Dec.{ltb}
use lib.ListN.{length, get_or, drop}
use borrow.Author.Tests.{ltb-true}
use Rattle.base.specs.Pick.{pick}
use Rattle.base.specs.Seek.{seek, before}
use Rattle.base.proofs.Cases.{by-test, pick-both}
use Rattle.paper.specs.Read.{Field, value, fault, given}
use Rattle.paper.specs.Bytes.{is_digit, comma, field_of}
use Rattle.paper.specs.Numerals.{digits}
use Rattle.paper.specs.Amounts.{with_comma, read_amount, amount_proper, read_item_amount}
use Rattle.numeral.proofs.Sound.{digits-sound}
use Rattle.numeral.proofs.given.Given.{value-fault, value_same, given-value}
use Rattle.numeral.specs.field.At.{found, field_at}
use Rattle.numeral.specs.declared.field.Run.{Run}
use Rattle.numeral.proofs.field.Front.{split-byte}
use Rattle.numeral.specs.placed.Known.{There, Stops, Ran}
use Rattle.numeral.proofs.placed.Parts.{some-value, at_value, one-stops, one_value, one_byte, one-whole, two-stops, two-first, two-byte, two-next, two-second, two-whole}

-- the limits leave an amount as it is
limited-same : (max v u : ℕ) → pick (amount_proper max v) (value v) (fault 6) ≡ value u → u ≡ v
unfolding pick
limited-same max v u e = by-test (amount_proper max v) (λ t. sym (value_same _ _ (simp t at e))) (λ t. value-fault u 6 (sym (simp t at e)))

-- ---- the two shapes of a field w that is an amount

pub data Shape (most : ℕ) (w : List ℕ) (v : ℕ) : Type 0 where
  two : (p b : List ℕ) (x y : ℕ) → w ≡ p ++ (44 ∷ b) → digits 1 11 p ≡ value x → digits 2 2 b ≡ value y → v ≡ x * 100 + y → Shape most w v
  one : digits 1 most w ≡ value v → Shape most w v

module _ (may : Bool) (most max : ℕ) (w : List ℕ) (v : ℕ) where
  with-comma : (l : seek comma w < length w) → with_comma w ≡ value v → Shape most w v
  unfolding with_comma
  with-comma l e =
      let x = given-value (λ crowns. given (digits 2 2 (drop (seek comma w + 1) w)) λ rest. value (crowns * 100 + rest)) (digits 1 11 (before comma w)) v e in
      let y = given-value (λ rest. value (x.0 * 100 + rest)) (digits 2 2 (drop (seek comma w + 1) w)) v x.2 in
      two (before comma w) (drop (seek comma w + 1) w) x.0 y.0 (split-byte 44 w l) x.1 y.1 (sym (value_same _ _ y.2))

  shape_of : read_amount may most w ≡ value v → Shape most w v
  unfolding read_amount pick
  shape_of e =
      by-test (pick may (ltb (seek comma w) (length w)) false)
      (λ t. with-comma (ltb-true _ _ (pick-both may _ t).1) (simp t at e))
      (λ t. one (simp t at e))

  pub amount-shape : read_item_amount may most max w ≡ value v → Shape most w v
  unfolding read_item_amount
  amount-shape e =
      let x = given-value (λ u. pick (amount_proper max u) (value u) (fault 6)) (read_amount may most w) v e in
      shape_of (x.1 ∙ ap value (sym (limited-same max x.0 v x.2)))

-- ---- at its place in the line

module _ (may : Bool) (most max : ℕ) (few : most ≤ 19) (s : List ℕ) (at : ℕ) (h : There (read_item_amount may most max) s at) where
  abbrev w : List ℕ
  w = field_of (drop at s)

  abbrev read : List ℕ → Field ℕ
  read = read_item_amount may most max

  abbrev Is : ℕ → Type 0
  Is v = (read_item_amount may most max w ≡ value v) × Shape most w v

  -- the amount that stands there
  there : (v : ℕ) × Is v
  there = let x = some-value (read_item_amount may most max w) h.says in (x.0, (x.1, amount-shape may most max w x.0 x.1))

  stops : (v : ℕ) → Is v → Stops s at
  unfolding is_digit pick
  stops v (e, two p b x y f i j k) = two-stops read s at h 44 (omega arith) refl p b f 1 11 x i (omega arith)
  stops v (e, one i) = one-stops read s at h 1 most v i few

  pub amount-stops : Stops s at
  amount-stops = stops there.0 there.1

  module _ (r : Run) (g : Ran s at r) where
    pub amount-byte : r.end < length s
    amount-byte = omega (arith, g.end, amount-stops.inside)

    pub amount-room : length s < 18446744073709551616 → Fits w64 (r.end + 1)
    amount-room l = omega (arith, amount-byte)

    module _ (d : get_or s r.end 0 ≡ 44) where
      next : (v : ℕ) → Is v → Stops s (r.end + 1)
      unfolding is_digit pick
      next v (e, two p b x y f i j k) = two-next read s at h 44 (omega arith) refl p b f 1 11 x i (omega arith) r g 2 2 y j (omega arith)
      next v (e, one i) = absurd (omega (arith, d, one_byte read s at h 1 most v i few r g))

      pub amount-next : Stops s (r.end + 1)
      amount-next = next there.0 there.1

      crowns : (v : ℕ) → Is v → r.value < 100000000000
      unfolding is_digit pick
      crowns v (e, two p b x y f i j k) = rw (two-first read s at h 44 (omega arith) refl p b f 1 11 x i (omega arith) r g) (digits-sound 1 11 p x i)
      crowns v (e, one i) = absurd (omega (arith, d, one_byte read s at h 1 most v i few r g))

      pub amount-times : Fits w64 (r.value * 100)
      amount-times = omega (arith, crowns there.0 there.1)

      module _ (q : Run) (k' : Ran s (r.end + 1) q) where
        cents : (v : ℕ) → Is v → q.value < 100
        unfolding is_digit pick
        cents v (e, two p b x y f i j k) =
            rw (two-second read s at h 44 (omega arith) refl p b f 1 11 x i (omega arith) r g 2 2 y j (omega arith) q k') (digits-sound 2 2 b y j)
        cents v (e, one i) = absurd (omega (arith, d, one_byte read s at h 1 most v i few r g))

        pub amount-fits : Fits w64 (r.value * 100 + q.value)
        amount-fits = omega (arith, crowns there.0 there.1, cents there.0 there.1)

        both-are : (v : ℕ) → Is v → found (r.value * 100 + q.value) q.end ≡ field_at read s at
        unfolding is_digit pick
        both-are v (e, two p b x y f i j k) =
            let m = two-first read s at h 44 (omega arith) refl p b f 1 11 x i (omega arith) r g in
            let n = two-second read s at h 44 (omega arith) refl p b f 1 11 x i (omega arith) r g 2 2 y j (omega arith) q k' in
            at_value read s at v _ q.end e (rw (m, n) (sym k))
            (two-whole read s at h 44 (omega arith) refl p b f 1 11 x i (omega arith) r g 2 2 y j (omega arith) q k')
        both-are v (e, one i) = absurd (omega (arith, d, one_byte read s at h 1 most v i few r g))

        pub amount-two : found (r.value * 100 + q.value) q.end ≡ field_at (read_item_amount may most max) s at
        amount-two = both-are there.0 there.1

    module _ (d : get_or s r.end 0 ≡ 44 → ⊥) where
      alone-is : (v : ℕ) → Is v → found r.value r.end ≡ field_at read s at
      unfolding is_digit pick
      alone-is v (e, two p b x y f i j k) = absurd (d (two-byte read s at h 44 (omega arith) refl p b f 1 11 x i (omega arith) r g))
      alone-is v (e, one i) = at_value read s at v _ r.end e (one_value read s at h 1 most v i few r g) (one-whole read s at h 1 most v i few r g)

      pub amount-one : found r.value r.end ≡ field_at (read_item_amount may most max) s at
      amount-one = alone-is there.0 there.1

pub ruleset amounts = (amount-stops, amount-byte, amount-room, amount-next, amount-times, amount-fits, amount-two, amount-one)

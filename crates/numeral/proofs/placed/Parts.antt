-- Digits of a line with another byte behind them, and what a run that takes them leaves. Assumes nothing.
use Rattle.std.proofs.Common.{◌≡◌, ℕ, ◌+◌, ◌<◌, ◌≤◌, true, false, List, ◌∷◌, ◌++◌, length, get_or, drop, sym, refl, ap, ◌∙◌, append_assoc, arith, length-append, length-drop, drop-drop}
use lib.Seq.{drop-append-add}
use Rattle.base.specs.Pick.{pick}
use Rattle.base.specs.Seek.{seek}
use Rattle.paper.specs.Read.{Field, value, fault}
use Rattle.paper.specs.Bytes.{is_digit, space, field_of}
use Rattle.paper.specs.Numerals.{digits}
use Rattle.paper.specs.ItemLine.{is_value}
use Rattle.numeral.proofs.Sound.{same, read-on, digits-plain, digits-most}
use Rattle.numeral.specs.field.At.{found, ending, field_at}
use Rattle.numeral.specs.field.Digits.{front}
use Rattle.numeral.specs.declared.field.Run.{Run}
use Rattle.base.proofs.Lists.{drop-none}
use Rattle.numeral.proofs.field.Front.{field-long, front-other, split-byte, part-byte}
use Rattle.numeral.specs.placed.Known.{There, Stops, Ran}

-- ---- the digits d stand at `at` of the line s, and the byte x behind them

module _ (s : List ℕ) (at : ℕ) (d : List ℕ) (x : ℕ) (t : List ℕ) (q : drop at s ≡ d ++ (x ∷ t)) where
  pub part-inside : at + length d < length s
  part-inside = omega (arith, length-drop at s, ap length q, length-append d (x ∷ t))

  pub part-rest : drop (at + length d + 1) s ≡ t
  part-rest =
      let z : at + length d + 1 ≡ at + (length d + 1) = omega arith in
      rw (z, ← (drop-drop (length d + 1) at s), q) (drop-append-add d (x ∷ t) 1 ∙ drop-none t)

  module _ (least most v : ℕ) (g : digits least most d ≡ value v) (few : most ≤ 19) (low : x < 48) (n : is_digit x ≡ false) where
    part-front : front (drop at s) ≡ d
    part-front = rw q (front-other d x t (digits-plain least most d v g) n)

    pub part-stops : Stops s at
    part-stops =
        record { few = rw part-front (omega (arith, digits-most least most d v g)); inside = rw part-front part-inside; low = rw (part-front, part-byte s at d x t q) low }

    module _ (r : Run) (h : Ran s at r) where
      pub part_end : r.end ≡ at + length d
      part_end = h.end ∙ rw part-front

      pub part-value : r.value ≡ v
      part-value = same r.value v (sym (rw part-front at h.number) ∙ read-on least most d v g)

-- ---- a field that is there

module _ {A : Type 0} where
  pub some-value : (x : Field A) → is_value x ≡ true → (v : A) × (x ≡ value v)
  unfolding is_value
  some-value (value v) h = (v, refl)
  some-value (fault n) h = absurd (let z : ◌≡◌ {A = ℕ} 0 1 = cc in omega arith)

  pub at_value : (read : List ℕ → Field A) (s : List ℕ) (at : ℕ) (v w : A) (e : ℕ) → read (field_of (drop at s)) ≡ value v → w ≡ v → e ≡ at + seek space (drop at s)
      → found w e ≡ field_at read s at
  unfolding field_at ending
  at_value read s at v w e g i h = rw (g, i, h)

  -- its bytes, and the space behind them
  module _ (read : List ℕ → Field A) (s : List ℕ) (at : ℕ) (h : There read s at) where
    pub there-long : seek space (drop at s) < length (drop at s)
    there-long = omega (arith, h.on, length-drop at s)

    abbrev rest : List ℕ
    rest = drop (seek space (drop at s) + 1) (drop at s)

    split : drop at s ≡ field_of (drop at s) ++ (32 ∷ rest)
    split = split-byte 32 (drop at s) there-long

    end : at + seek space (drop at s) ≡ at + length (field_of (drop at s))
    end = ap (λ (n : ℕ). at + n) (sym (field-long (drop at s)))

    -- one run of digits
    module _ (least most v : ℕ) (g : digits least most (field_of (drop at s)) ≡ value v) (few : most ≤ 19) where
      pub one-stops : Stops s at
      unfolding is_digit pick
      one-stops = part-stops s at (field_of (drop at s)) 32 rest split least most v g few (omega arith) refl

      module _ (r : Run) (k : Ran s at r) where
        pub one_value : r.value ≡ v
        unfolding is_digit pick
        one_value = part-value s at (field_of (drop at s)) 32 rest split least most v g few (omega arith) refl r k

        pub one-whole : r.end ≡ at + seek space (drop at s)
        unfolding is_digit pick
        one-whole = part_end s at (field_of (drop at s)) 32 rest split least most v g few (omega arith) refl r k ∙ sym end

        pub one_byte : get_or s r.end 0 ≡ 32
        one_byte = rw (one-whole, end) (part-byte s at (field_of (drop at s)) 32 rest split)

    -- two of them, p and b, with the byte z between them
    module _ (z : ℕ) (low : z < 48) (n : is_digit z ≡ false) (p b : List ℕ) (e : field_of (drop at s) ≡ p ++ (z ∷ b))
        (least most u : ℕ) (g : digits least most p ≡ value u) (few : most ≤ 19) where
      first : drop at s ≡ p ++ (z ∷ (b ++ (32 ∷ rest)))
      first = split ∙ (ap (λ (l : List ℕ). l ++ (32 ∷ rest)) e ∙ append_assoc p (z ∷ b) (32 ∷ rest))

      pub two-stops : Stops s at
      two-stops = part-stops s at p z (b ++ (32 ∷ rest)) first least most u g few low n

      module _ (r : Run) (k : Ran s at r) where
        pub two-first : r.value ≡ u
        two-first = part-value s at p z (b ++ (32 ∷ rest)) first least most u g few low n r k

        first-end : r.end ≡ at + length p
        first-end = part_end s at p z (b ++ (32 ∷ rest)) first least most u g few low n r k

        pub two-byte : get_or s r.end 0 ≡ z
        two-byte = rw first-end (part-byte s at p z (b ++ (32 ∷ rest)) first)

        second : drop (r.end + 1) s ≡ b ++ (32 ∷ rest)
        second = rw first-end (part-rest s at p z (b ++ (32 ∷ rest)) first)

        module _ (least' most' v : ℕ) (g' : digits least' most' b ≡ value v) (few' : most' ≤ 19) where
          pub two-next : Stops s (r.end + 1)
          unfolding is_digit pick
          two-next = part-stops s (r.end + 1) b 32 rest second least' most' v g' few' (omega arith) refl

          module _ (q : Run) (k' : Ran s (r.end + 1) q) where
            pub two-second : q.value ≡ v
            unfolding is_digit pick
            two-second = part-value s (r.end + 1) b 32 rest second least' most' v g' few' (omega arith) refl q k'

            pub two-whole : q.end ≡ at + seek space (drop at s)
            unfolding is_digit pick
            two-whole =
                let m = part_end s (r.end + 1) b 32 rest second least' most' v g' few' (omega arith) refl q k' in
                omega (arith, m, first-end, end, ap length e, length-append p (z ∷ b))

-- An account of digits alone, and one with a dash behind its first digits. Assumes nothing.
use mathlib.Core.Path.{◌≡◌, refl, sym, ◌∙◌}
use mathlib.Core.Bool.{Bool, true, false}
use mathlib.Core.List.{List, [], ◌∷◌, ◌++◌}
use Prim.Native.Nat.{ℕ, ◌+◌, ◌-◌, ◌*◌, ◌/◌, ◌%◌, ◌≤◌, ◌<◌}
use native.Mathlib.Omega.{arith}
use lib.Dec.{ltb}
use lib.ListN.{length, take, drop, take-append-drop, length-take, length-drop, length-append}
use lib.Seq.{take-length, drop-length, take-append_seam, drop-append-add}
use borrow.Author.Tests.{lt-ltb, le-ltb}
use Rattle.base.specs.Pick.{pick}
use Rattle.base.specs.Seek.{all, seek}
use Rattle.base.proofs.Cases.{by-test, by-lt, either, pick_true, pick-false}
use Rattle.base.proofs.Seek.{all_take, all_drop, seek-join, seek-over}
use Rattle.paper.specs.Read.{value, fault, given}
use Rattle.paper.specs.Bytes.{is_digit, dash}
use Rattle.paper.specs.Numerals.{digits}
use Rattle.paper.specs.Accounts.{ruled, two_parts, one_part, read_account}
use Rattle.numeral.proofs.Digits.{in-range, too_short, too_long}
use Rattle.numeral.proofs.Sound.{same, read-on, digits-plain, digits-most, digits-sound, digits-reads}
use Rattle.numeral.proofs.Split.{digits-split}
use Rattle.account.proofs.Exits.{no-dash}
use Rattle.account.specs.at.Parts.{undashed}
use Rattle.account.specs.Parts.{with_base}

-- a number of so many digits, where other counts are allowed
pub recount : (a b c d : ℕ) (s : List ℕ) (v : ℕ) → digits a b s ≡ value v → c ≤ length s → length s ≤ d → digits c d s ≡ value v
recount a b c d s v g lo hi = in-range c d s lo hi ∙ read-on a b s v g

-- all but the last ten digits, and these
abbrev front : List ℕ → List ℕ
front d = take (length d - 10) d

abbrev back : List ℕ → List ℕ
back d = drop (length d - 10) d

-- ---- digits alone, d, whose number is v

module _ (d : List ℕ) (v : ℕ) (g : digits 0 16 d ≡ value v) where
  dashless : seek dash d ≡ length d
  unfolding is_digit pick seek
  dashless =
      let a : all is_digit (take (length d) d) ≡ true = rw take-length (digits-plain 0 16 d v g) in
      seek-over is_digit 45 refl (length d) d (omega arith) a ∙ rw drop-length (omega arith)

  -- more than ten of them: p is the number of the first, q that of the last ten
  module _ (h : 10 < length d) where
    module _ (p q : ℕ) (x : digits (length d - 10) (length d - 10) (front d) ≡ value p) (y : digits 10 10 (back d) ≡ value q) where
      whole : p * 10000000000 + q ≡ v
      whole =
          let j = rw (take-append-drop (length d - 10) d) at (digits-split (length d - 10) 10 (front d) (back d) p q x y) in
          same (p * 10000000000 + q) v (sym (recount (length d - 10 + 10) (length d - 10 + 10) 0 16 d (p * 10000000000 + q) j (omega arith) (digits-most 0 16 d v g)) ∙ g)

      upper : v / 10000000000 ≡ p
      upper = omega (arith, whole, digits-sound 10 10 (back d) q y)

      lower : v % 10000000000 ≡ q
      lower = omega (arith, whole, digits-sound 10 10 (back d) q y)

      parts-are : two_parts 10 (front d) (back d) ≡ ruled (v / 10000000000) (v % 10000000000)
      unfolding two_parts given
      parts-are =
          let m : length (front d) ≡ length d - 10 = omega (arith, length-take (length d - 10) d) in
          let z : digits 1 6 (front d) ≡ value p = recount (length d - 10) (length d - 10) 1 6 (front d) p x (omega arith) (omega (arith, digits-most 0 16 d v g)) in
          rw (z, y, upper, lower)

    both-parts : two_parts 10 (front d) (back d) ≡ ruled (v / 10000000000) (v % 10000000000)
    both-parts =
        let plain = digits-plain 0 16 d v g in
        let p = digits-reads (length d - 10) (length d - 10) (front d) (all_take is_digit (length d - 10) d plain) (omega (arith, length-take (length d - 10) d)) (omega (arith, length-take (length d - 10) d)) in
        let q = digits-reads 10 10 (back d) (all_drop is_digit (length d - 10) d plain) (omega (arith, length-drop (length d - 10) d)) (omega (arith, length-drop (length d - 10) d)) in
        parts-are p.0 q.0 p.1 q.1

    no-base : (least : ℕ) → one_part least d ≡ fault 4
    unfolding one_part given
    no-base least =
        by-lt (length d) least (λ l. rw (← (too_short least 10 d l))) (λ l. rw (← (too_long least 10 d l h)))

  module _ (joined : Bool) (least : ℕ) where
    long : 10 < length d → undashed joined least (length d) v ≡ read_account joined least d
    unfolding undashed pick
    long h =
        by-test joined
        (λ j. rw (no-dash joined least d (omega (arith, dashless)), lt-ltb 10 (length d) h, j) (sym (both-parts h)))
        (λ j. rw (no-dash joined least d (omega (arith, dashless)), lt-ltb 10 (length d) h, j) (sym (no-base h least)))

    short : length d ≤ 10 → undashed joined least (length d) v ≡ read_account joined least d
    unfolding undashed one_part given
    short h =
        let o : pick joined (ltb 10 (length d)) false ≡ false = either (λ x. x ≡ false) joined (λ j. le-ltb 10 (length d) h) (λ j. refl) in
        pick-false _ _ (le-ltb 10 (length d) h)
        ∙ by-lt (length d) least
        (λ l. pick_true _ _ (lt-ltb (length d) least l) ∙ rw (← (too_short least 10 d l)))
        (λ l. pick-false _ _ (le-ltb (length d) least l) ∙ rw (recount 0 16 least 10 d v g l h))
        ∙ sym (no-dash joined least d (omega (arith, dashless)) ∙ pick-false _ _ o)

    pub undashed-is : undashed joined least (length d) v ≡ read_account joined least d
    undashed-is = by-lt 10 (length d) long short

-- ---- a prefix d of digits, a dash, and a base b

module _ (d b : List ℕ) (v : ℕ) (g : digits 0 16 d ≡ value v) (lo : 1 ≤ length d) (hi : length d ≤ 6) where
  dash-at : seek dash (d ++ (45 ∷ b)) ≡ length d
  unfolding all
  dash-at = seek-join 45 [] refl d b (dashless d v g)

  pub dashed-is : (joined : Bool) (least : ℕ) → with_base least v b ≡ read_account joined least (d ++ (45 ∷ b))
  unfolding read_account two_parts with_base given
  dashed-is joined least =
      let l : seek dash (d ++ (45 ∷ b)) < length (d ++ (45 ∷ b)) = omega (arith, dash-at, length-append d (45 ∷ b)) in
      sym (pick_true _ _ (lt-ltb _ _ l) ∙ rw (dash-at, take-append_seam, drop-append-add, recount 0 16 1 6 d v g lo hi))

-- Parts written one behind another, and the room for them. Assumes nothing.
use mathlib.Core.Path.{◌≡◌}
use mathlib.Core.List.{List, [], ◌∷◌}
use Prim.Native.Nat.{ℕ, ◌+◌, ◌≤◌, ◌<◌}
use native.Mathlib.Omega.{arith}
use lib.ListN.{length}
use Rattle.base.specs.Put.{Wrote}
use Rattle.base.proofs.Put.{◌then◌}
use Rattle.out.proofs.put.Room.{wrote-length}
use Rattle.paper.specs.Texts.{join_on, joined, trim}
use Rattle.text.specs.extent.Four.{four}
use Rattle.text.proofs.extent.Parts.{keep_one, trim-four, trim-three, trim-two, trim-one}
use Rattle.text.proofs.extent.Lengths.{length-join}

-- put_two, put_three, put_four: a part, a bar and what follows
module _ (a b : List ℕ) where
  pub then-two : {o o1 o2 o3 : List ℕ} {at p q r : ℕ} → Wrote o at a o1 p → Wrote o1 p (124 ∷ []) o2 q → Wrote o2 q b o3 r → Wrote o at (join_on a (b ∷ [])) o3 r
  unfolding join_on
  then-two v w x = v then w then x

  pub room-last : (o o1 o2 : List ℕ) (at p q : ℕ) → Wrote o at a o1 p → Wrote o1 p (124 ∷ []) o2 q → at + length (join_on a (b ∷ [])) ≤ length o → q + length b ≤ length o2
  unfolding join_on
  room-last o o1 o2 at p q w v h = omega (arith, length-join a b [], wrote-length w, w.next, wrote-length v, v.next)

  module _ (bs : List (List ℕ)) where
    pub then-more : {o o1 o2 o3 : List ℕ} {at p q r : ℕ} → Wrote o at a o1 p → Wrote o1 p (124 ∷ []) o2 q → Wrote o2 q (join_on b bs) o3 r → Wrote o at (join_on a (b ∷ bs)) o3 r
    unfolding join_on
    then-more v w x = v then w then x

    pub room-first : (n at : ℕ) → at + length (join_on a (b ∷ bs)) ≤ n → at + length a ≤ n
    room-first n at h = omega (arith, length-join a b bs)

    pub room-bar : (o o1 : List ℕ) (at p : ℕ) → Wrote o at a o1 p → at + length (join_on a (b ∷ bs)) ≤ length o → p < length o1
    room-bar o o1 at p w h = omega (arith, length-join a b bs, wrote-length w, w.next)

    pub room-rest : (o o1 o2 : List ℕ) (at p q : ℕ) → Wrote o at a o1 p → Wrote o1 p (124 ∷ []) o2 q → at + length (join_on a (b ∷ bs)) ≤ length o → q + length (join_on b bs) ≤ length o2
    room-rest o o1 o2 at p q w v h = omega (arith, length-join a b bs, wrote-length w, w.next, wrote-length v, v.next)

pub ruleset joins = (then-two, then-more, room-first, room-bar, room-last, room-rest)

-- put_parts
module _ (a b c d : List ℕ) where
  module _ (o o1 : List ℕ) (at r : ℕ) where
    pub parts-four : (length d ≡ 0 → ⊥) → Wrote o at (join_on a (b ∷ c ∷ d ∷ [])) o1 r → Wrote o at (joined (trim (four a b c d))) o1 r
    unfolding joined
    parts-four h w = rw (trim-four a b c d h) w

    pub parts-three : length d ≡ 0 → (length c ≡ 0 → ⊥) → Wrote o at (join_on a (b ∷ c ∷ [])) o1 r → Wrote o at (joined (trim (four a b c d))) o1 r
    unfolding joined
    parts-three e h w = rw (trim-three a b c d e h) w

    pub parts-two : length d ≡ 0 → length c ≡ 0 → (length b ≡ 0 → ⊥) → Wrote o at (join_on a (b ∷ [])) o1 r → Wrote o at (joined (trim (four a b c d))) o1 r
    unfolding joined
    parts-two e f h w = rw (trim-two a b c d e f h) w

    pub parts-one : length d ≡ 0 → length c ≡ 0 → length b ≡ 0 → Wrote o at a o1 r → Wrote o at (joined (trim (four a b c d))) o1 r
    parts-one e f h w = rw (trim-one a b c d e f h, keep_one a) w

  module _ (n at : ℕ) (h : at + length (joined (trim (four a b c d))) ≤ n) where
    pub for-four : (length d ≡ 0 → ⊥) → at + length (join_on a (b ∷ c ∷ d ∷ [])) ≤ n
    unfolding joined
    for-four e = rw (trim-four a b c d e) at h

    pub for-three : length d ≡ 0 → (length c ≡ 0 → ⊥) → at + length (join_on a (b ∷ c ∷ [])) ≤ n
    unfolding joined
    for-three e f = rw (trim-three a b c d e f) at h

    pub for-two : length d ≡ 0 → length c ≡ 0 → (length b ≡ 0 → ⊥) → at + length (join_on a (b ∷ [])) ≤ n
    unfolding joined
    for-two e f g = rw (trim-two a b c d e f g) at h

    pub for-one : length d ≡ 0 → length c ≡ 0 → length b ≡ 0 → at + length a ≤ n
    for-one e f g = rw (trim-one a b c d e f g, keep_one a) at h

pub ruleset trims = (parts-four, parts-three, parts-two, parts-one, for-four, for-three, for-two, for-one)

-- Writers of digits: what one wrote, or two one behind the other, is the digits of one number; and the room that they need. Assumes nothing.
use Rattle.std.proofs.Common.{◌≡◌, ℕ, ◌+◌, ◌-◌, ◌*◌, ◌/◌, ◌%◌, ◌^◌, ◌<◌, ◌≤◌, List, [], ◌∷◌, length, set, refl, ap, ◌∙◌, arith, length-append, lt-ltb}
use native.Mathlib.Numerals.{towards_suc}
use Rattle.base.specs.Pick.{pick}
use Rattle.base.specs.Put.{Wrote}
use Rattle.base.proofs.Put.{put-sets, ◌then◌}
use Rattle.out.proofs.put.Room.{wrote-length, wrote_none}
use Rattle.paper.specs.Numerals.{dec_on, decimal, fixed_on, fixed}
use Rattle.numeral.proofs.Fixed.{fixed-length, decimal-fixed}
use Rattle.numeral.proofs.Long.{decimal-some}
use Rattle.numeral.proofs.Join.{join-fixed, fixed-low, join-decimal}
use Rattle.numeral.proofs.Wide.{wide}

-- put_pair: t are the tens of n, and the two bytes are one number
module _ (n t : ℕ) (e : t ≡ n / 10) (h : n < 100) where
  both : 12336 + n * 256 - t * 2559 ≡ 48 + t + 256 * (48 + n % 10)
  both = omega arith

  low_byte : (12336 + n * 256 - t * 2559) % 256 ≡ 48 + n / 10 % 10
  low_byte =
      let small : t < 10 = omega arith in
      let digit : n / 10 % 10 ≡ t = omega arith in
      rw (both, digit) (omega (arith, small))

  high_byte : (12336 + n * 256 - t * 2559) / 256 ≡ 48 + n % 10
  high_byte = rw both (omega arith)

  pub pair-wrote : (o : List ℕ) (at : ℕ) → at + 2 ≤ length o → Wrote o at (fixed 2 n) (set (set o at ((12336 + n * 256 - t * 2559) % 256)) (at + 1) ((12336 + n * 256 - t * 2559) / 256)) (at + 2)
  unfolding fixed fixed_on
  pair-wrote o at room =
      rw (low_byte, high_byte)
      (record { room = omega arith; next = refl; left = simp towards_suc (put-sets o at ((48 + n / 10 % 10) ∷ (48 + n % 10) ∷ []) (omega arith)) })

digit-is : (n : ℕ) → n < 10 → decimal n ≡ (48 + n) ∷ []
unfolding decimal dec_on pick
digit-is n h = simp (lt-ltb n 10 h)

-- One writer.
module _ {o o1 : List ℕ} {at p : ℕ} where
  -- as many digits as n has
  pub as-fixed : (n w : ℕ) → w ≡ length (decimal n) → Wrote o at (fixed w n) o1 p → Wrote o at (decimal n) o1 p
  as-fixed n w e v = rw (decimal-fixed n, ← e) v

  pub as-digit : (n : ℕ) → n < 10 → Wrote o at ((48 + n) ∷ []) o1 p → Wrote o at (decimal n) o1 p
  as-digit n h v = rw (digit-is n h) v

  pub as-two : (n : ℕ) → 10 ≤ n → n < 100 → Wrote o at (fixed 2 n) o1 p → Wrote o at (decimal n) o1 p
  as-two n lo hi v = as-fixed n 2 (wide 1 n (omega arith) (omega arith) (omega arith)) v

  pub as-four : (n : ℕ) → 1000 ≤ n → n < 10000 → Wrote o at (fixed 4 n) o1 p → Wrote o at (decimal n) o1 p
  as-four n lo hi v = as-fixed n 4 (wide 3 n (omega arith) (omega arith) (omega arith)) v

  -- the last k digits of n
  pub few-one : (k n : ℕ) → k ≡ 1 → Wrote o at ((48 + n % 10) ∷ []) o1 p → Wrote o at (fixed k n) o1 p
  unfolding fixed fixed_on
  few-one k n e v = rw e v

  pub few-two : (k n : ℕ) → k ≡ 2 → Wrote o at (fixed 2 (n % 100)) o1 p → Wrote o at (fixed k n) o1 p
  few-two k n e v =
      let s : n ≡ n / 100 * 10 ^ 2 + n % 100 = omega arith in
      let f : fixed 2 n ≡ fixed 2 (n % 100) = ap (fixed 2) s ∙ fixed-low 2 (n / 100) (n % 100) (omega arith) in
      rw (e, f) v

pub few-none : (k n at : ℕ) (o : List ℕ) → k ≡ 0 → at + k ≤ length o → Wrote o at (fixed k n) o at
unfolding fixed fixed_on
few-none k n at o e h = rw e (wrote_none o at (omega arith))

-- Two writers: the digits of the high part q of n, and behind them those of its low part r.
module _ {o o1 o2 : List ℕ} {at p e : ℕ} where
  fixed_then : (a b q r n : ℕ) → n ≡ q * 10 ^ b + r → r < 10 ^ b → Wrote o at (fixed a q) o1 p → Wrote o1 p (fixed b r) o2 e → Wrote o at (fixed (a + b) n) o2 e
  fixed_then a b q r n s h v w = rw (s, join-fixed a b q r h) (v then w)

  decimal-then : (b q r n : ℕ) → n ≡ q * 10 ^ b + r → b < 20 → 0 < q → q < 10 ^ (20 - b) → r < 10 ^ b → Wrote o at (decimal q) o1 p → Wrote o1 p (fixed b r) o2 e → Wrote o at (decimal n) o2 e
  decimal-then b q r n s m g l h v w = rw (s, join-decimal b q r m g l h) (v then w)

  module _ (n h : ℕ) where
    pub four-wrote : h ≡ n / 100 → n < 10000 → Wrote o at (fixed 2 h) o1 p → Wrote o1 p (fixed 2 (n - h * 100)) o2 e → Wrote o at (fixed 4 n) o2 e
    four-wrote s l v w = fixed_then 2 2 h (n - h * 100) n (omega arith) (omega arith) v w

    pub eight-wrote : h ≡ n / 10000 → n < 100000000 → Wrote o at (fixed 4 h) o1 p → Wrote o1 p (fixed 4 (n - h * 10000)) o2 e → Wrote o at (fixed 8 n) o2 e
    eight-wrote s l v w = fixed_then 4 4 h (n - h * 10000) n (omega arith) (omega arith) v w

    pub hundred-wrote : h ≡ n / 100 → 100 ≤ n → n < 1000 → Wrote o at ((48 + h) ∷ []) o1 p → Wrote o1 p (fixed 2 (n - h * 100)) o2 e → Wrote o at (decimal n) o2 e
    hundred-wrote s lo hi v w =
        decimal-then 2 h (n - h * 100) n (omega arith) (omega arith) (omega arith) (omega arith) (omega arith) (as-digit h (omega arith) v) w

    pub myriad-wrote : h ≡ n / 10000 → 10000 ≤ n → n < 100000000 → Wrote o at (decimal h) o1 p → Wrote o1 p (fixed 4 (n - h * 10000)) o2 e → Wrote o at (decimal n) o2 e
    myriad-wrote s lo hi v w = decimal-then 4 h (n - h * 10000) n (omega arith) (omega arith) (omega arith) (omega arith) (omega arith) v w

  pub three-wrote : (k n : ℕ) → k ≤ 3 → (k ≡ 0 → ⊥) → (k ≡ 1 → ⊥) → (k ≡ 2 → ⊥) → Wrote o at ((48 + n / 100 % 10) ∷ []) o1 p → Wrote o1 p (fixed 2 (n % 100)) o2 e → Wrote o at (fixed k n) o2 e
  unfolding fixed fixed_on
  three-wrote k n m x y z v w = let s : k ≡ 3 = omega arith in rw s (fixed_then 1 2 (n / 100) (n % 100) n (omega arith) (omega arith) v w)

  pub million-wrote : (n : ℕ) → 100000000 ≤ n → n < 1000000000000 → Wrote o at (decimal (n / 100000000)) o1 p → Wrote o1 p (fixed 8 (n - n / 100000000 * 100000000)) o2 e → Wrote o at (decimal n) o2 e
  million-wrote n lo hi v w =
      decimal-then 8 (n / 100000000) (n - n / 100000000 * 100000000) n (omega arith) (omega arith) (omega arith) (omega arith) (omega arith) v w

-- Room for the second half, behind the first.
module _ {o o1 : List ℕ} {at p : ℕ} (h : ℕ) where
  pub four-next : at + 4 ≤ length o → Wrote o at (fixed 2 h) o1 p → p + 2 ≤ length o1
  four-next room v = omega (arith, fixed-length 2 h, v.next, wrote-length v)

  pub eight-next : at + 8 ≤ length o → Wrote o at (fixed 4 h) o1 p → p + 4 ≤ length o1
  eight-next room v = omega (arith, fixed-length 4 h, v.next, wrote-length v)

-- Room for the digits of n, where there is room for `decimal n`.
module _ (n at m : ℕ) (room : at + length (decimal n) ≤ m) where
  pub room-digit : at < m
  room-digit = omega (arith, decimal-some n)

  pub room-two : 10 ≤ n → n < 100 → at + 2 ≤ m
  room-two lo hi = omega (arith, wide 1 n (omega arith) (omega arith) (omega arith))

  pub room-four : 1000 ≤ n → n < 10000 → at + 4 ≤ m
  room-four lo hi = omega (arith, wide 3 n (omega arith) (omega arith) (omega arith))

-- and for those of its parts, one behind the other
module _ (b q r n : ℕ) (s : n ≡ q * 10 ^ b + r) (m : b < 20) (g : 0 < q) (l : q < 10 ^ (20 - b)) (h : r < 10 ^ b) where
  long-parts : length (decimal n) ≡ length (decimal q) + b
  long-parts = omega (arith, ap (λ (k : ℕ). length (decimal k)) s, ap length (join-decimal b q r m g l h), length-append (decimal q) (fixed b r), fixed-length b r)

  room-high : (at k : ℕ) → at + length (decimal n) ≤ k → at + length (decimal q) ≤ k
  room-high at k room = omega (arith, long-parts)

  room-low : {o o1 x : List ℕ} {at p : ℕ} → length x ≡ length (decimal q) → at + length (decimal n) ≤ length o → Wrote o at x o1 p → p + b ≤ length o1
  room-low e room v = omega (arith, long-parts, v.next, wrote-length v)

module _ (n h : ℕ) (e : h ≡ n / 10000) (lo : 10000 ≤ n) (hi : n < 100000000) where
  pub myriad-first : (at k : ℕ) → at + length (decimal n) ≤ k → at + length (decimal h) ≤ k
  myriad-first at k room = room-high 4 h (n - h * 10000) n (omega arith) (omega arith) (omega arith) (omega arith) (omega arith) at k room

  pub myriad-next : {o o1 : List ℕ} {at p : ℕ} → at + length (decimal n) ≤ length o → Wrote o at (decimal h) o1 p → p + 4 ≤ length o1
  myriad-next room v = room-low 4 h (n - h * 10000) n (omega arith) (omega arith) (omega arith) (omega arith) (omega arith) refl room v

module _ (n h : ℕ) (e : h ≡ n / 100) (lo : 100 ≤ n) (hi : n < 1000) where
  pub hundred-next : {o o1 : List ℕ} {at p b : ℕ} → at + length (decimal n) ≤ length o → Wrote o at (b ∷ []) o1 p → p + 2 ≤ length o1
  hundred-next room v = omega (arith, wide 2 n (omega arith) (omega arith) (omega arith), v.next, wrote-length v)

module _ (n : ℕ) (lo : 100000000 ≤ n) (hi : n < 1000000000000) where
  pub million-first : (at k : ℕ) → at + length (decimal n) ≤ k → at + length (decimal (n / 100000000)) ≤ k
  million-first at k room =
      room-high 8 (n / 100000000) (n - n / 100000000 * 100000000) n (omega arith) (omega arith) (omega arith) (omega arith) (omega arith) at k room

  pub million-next : {o o1 : List ℕ} {at p : ℕ} → at + length (decimal n) ≤ length o → Wrote o at (decimal (n / 100000000)) o1 p → p + 8 ≤ length o1
  million-next room v =
      room-low 8 (n / 100000000) (n - n / 100000000 * 100000000) n (omega arith) (omega arith) (omega arith) (omega arith) (omega arith) refl room v

pub ruleset stores = (
  pair-wrote,
  as-fixed,
  as-digit,
  as-two,
  as-four,
  few-none,
  few-one,
  few-two,
  four-wrote,
  eight-wrote,
  hundred-wrote,
  myriad-wrote,
  three-wrote,
  million-wrote,
  four-next,
  eight-next,
  room-digit,
  room-two,
  room-four,
  myriad-first,
  myriad-next,
  hundred-next,
  million-first,
  million-next,
)

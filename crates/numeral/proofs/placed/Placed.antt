-- Digits at a place: the parts of them, and the number that two parts make. Assumes nothing.
use Rattle.std.proofs.Common.{◌≡◌, ℕ, ◌+◌, ◌-◌, ◌*◌, ◌^◌, ◌<◌, ◌≤◌, true, List, [], ◌∷◌, length, get_or, take, drop, sym, ap, ◌∙◌, arith, length-drop, length-take-le, drop-cons, take-take, drop-drop, take-add, w64, Fits}
use Rattle.base.specs.Pick.{pick}
use Rattle.base.specs.Seek.{seek}
use Rattle.base.proofs.Lists.{drop-take}
use Rattle.base.proofs.Seek.{all_head, all_take, all_drop, seek-le}
use Rattle.paper.specs.Read.{value}
use Rattle.paper.specs.Bytes.{is_digit, space, field_of}
use Rattle.paper.specs.Numerals.{digits_on, digits}
use Rattle.numeral.proofs.Digits.{in-range}
use Rattle.numeral.proofs.Plain.{digit-range}
use Rattle.numeral.proofs.Sound.{same, read-on, digits-plain, digits-sound, digits-reads}
use Rattle.numeral.proofs.Split.{digits-split}
use Rattle.numeral.specs.placed.Placed.{Placed}

-- ---- a part of what stands at a place

-- n bytes from `at + i` on, of the k from `at` on
part-is : (n i k : ℕ) (s : List ℕ) (at : ℕ) → i + n ≤ k → take n (drop i (take k (drop at s))) ≡ take n (drop (at + i) s)
part-is n i k s at h = rw (drop-take i k (drop at s), drop-drop i at s) (take-take n (k - i) (drop (at + i) s) (omega arith))

pub placed-part : (n i k : ℕ) (s : List ℕ) (at : ℕ) → i + n ≤ k → Placed k s at → Placed n s (at + i)
placed-part n i k s at h p =
    record {
      inside = omega (arith, p.inside);
      plain = rw (← (part-is n i k s at h)) (all_take is_digit n _ (all_drop is_digit i (take k (drop at s)) p.plain));
    }

pub placed-front : (n k : ℕ) (s : List ℕ) (at : ℕ) → n ≤ k → Placed k s at → Placed n s at
placed-front n k s at h p = let z : at + 0 ≡ at = omega arith in rw z at (placed-part n 0 k s at (omega arith) p)

-- ---- the number of two parts

pub placed-join : (a b : ℕ) (s : List ℕ) (at v w : ℕ) → digits a a (take a (drop at s)) ≡ value v → digits b b (take b (drop (at + a) s)) ≡ value w
    → digits (a + b) (a + b) (take (a + b) (drop at s)) ≡ value (v * 10 ^ b + w)
placed-join a b s at v w f g =
    rw (take-add a b (drop at s), drop-drop a at s) (digits-split a b (take a (drop at s)) (take b (drop (at + a) s)) v w f g)

-- what stands there has a number
pub placed-reads : (n : ℕ) (s : List ℕ) (at : ℕ) → Placed n s at → (v : ℕ) × (digits n n (take n (drop at s)) ≡ value v)
placed-reads n s at p =
    let l : length (take n (drop at s)) ≡ n = length-take-le n (drop at s) (omega (arith, p.inside, length-drop at s)) in
    digits-reads n n (take n (drop at s)) p.plain (omega arith) (omega arith)

-- v is the number of k digits with a before them and j behind them, n that of all
module _ (a k j : ℕ) (s : List ℕ) (at n v : ℕ) (p : Placed (a + k + j) s at) (h : digits (a + k + j) (a + k + j) (take (a + k + j) (drop at s)) ≡ value n)
    (g : digits k k (take k (drop (at + a) s)) ≡ value v) where
  pub placed-among : (x : ℕ) × (y : ℕ) × (y < 10 ^ j) × (n ≡ (x * 10 ^ k + v) * 10 ^ j + y)
  placed-among =
      let x = placed-reads a s at (placed-front a (a + k + j) s at (omega arith) p) in
      let y = placed-reads j s (at + (a + k)) (placed-part j (a + k) (a + k + j) s at (omega arith) p) in
      let f = placed-join a k s at x.0 v x.1 g in
      (x.0, y.0, digits-sound j j _ y.0 y.1, same n _ (sym h ∙ placed-join (a + k) j s at _ y.0 f y.1))

-- ---- a whole field of digits

module _ (least most : ℕ) (s : List ℕ) (at n : ℕ) (l : at ≤ length s) (h : digits least most (field_of (drop at s)) ≡ value n) where
  pub field-placed : Placed (seek space (drop at s)) s at
  field-placed = record { inside = omega (arith, seek-le space (drop at s), length-drop at s); plain = digits-plain least most (field_of (drop at s)) n h }

  -- k digits of it at i, with j behind them
  module _ (k j i : ℕ) (lo : at ≤ i) (e : i + k + j ≡ at + seek space (drop at s)) where
    to : at + (i - at) ≡ i
    to = omega arith

    long : seek space (drop at s) ≡ i - at + k + j
    long = omega arith

    pub field-part : Placed k s i
    field-part = rw to at (placed-part k (i - at) (seek space (drop at s)) s at (omega arith) field-placed)

    -- v is their number
    pub field-among : (v : ℕ) → digits k k (take k (drop i s)) ≡ value v → (x : ℕ) × (y : ℕ) × (y < 10 ^ j) × (n ≡ (x * 10 ^ k + v) * 10 ^ j + y)
    field-among v g =
        let m : length (field_of (drop at s)) ≡ seek space (drop at s) = length-take-le (seek space (drop at s)) (drop at s) (seek-le space (drop at s)) in
        let whole = in-range (i - at + k + j) (i - at + k + j) (field_of (drop at s)) (omega arith) (omega arith) ∙ read-on least most (field_of (drop at s)) n h in
        placed-among (i - at) k j s at n v (rw long at field-placed) (rw long at whole) (rw to g)

-- ---- one digit

module _ (s : List ℕ) (at : ℕ) (p : Placed 1 s at) where
  pub one_inside : at < length s
  one_inside = omega (arith, p.inside)

  first : take 1 (drop at s) ≡ get_or s at 0 ∷ []
  first = rw (drop-cons s at 0 one_inside)

  one-digit : is_digit (get_or s at 0) ≡ true
  one-digit = all_head is_digit (get_or s at 0) [] (rw first at p.plain)

  pub one-low : 48 ≤ get_or s at 0
  one-low = (digit-range (get_or s at 0) one-digit).0

  pub one-high : get_or s at 0 ≤ 57
  one-high = (digit-range (get_or s at 0) one-digit).1

  pub one_number : digits 1 1 (take 1 (drop at s)) ≡ value (get_or s at 0 - 48)
  unfolding digits_on pick
  one_number = in-range 1 1 (take 1 (drop at s)) (rw first (omega arith)) (rw first (omega arith)) ∙ (ap (digits_on 0) first ∙ simp one-digit (ap (λ (n : ℕ). value n) (omega arith)))

  pub one-fits : Fits w64 (get_or s at 0)
  one-fits = omega (arith, one-high)

pub ruleset ones = (one_inside, one-low, one_number, one-fits)

-- ---- two digits of one and one, four of two and two

module _ (s : List ℕ) (at : ℕ) where
  module _ (p : Placed 2 s at) where
    pub two-first : Placed 1 s at
    two-first = placed-front 1 2 s at (omega arith) p

    pub two-second : Placed 1 s (at + 1)
    two-second = placed-part 1 1 2 s at (omega arith) p

  module _ (p : Placed 4 s at) where
    pub four-first : Placed 2 s at
    four-first = placed-front 2 4 s at (omega arith) p

    pub four-second : Placed 2 s (at + 2)
    four-second = placed-part 2 2 4 s at (omega arith) p

  module _ (v w : ℕ) where
    pub two-number : digits 1 1 (take 1 (drop at s)) ≡ value v → digits 1 1 (take 1 (drop (at + 1) s)) ≡ value w → digits 2 2 (take 2 (drop at s)) ≡ value (v * 10 + w)
    two-number f g = placed-join 1 1 s at v w f g

    pub four-number : digits 2 2 (take 2 (drop at s)) ≡ value v → digits 2 2 (take 2 (drop (at + 2) s)) ≡ value w → digits 4 4 (take 4 (drop at s)) ≡ value (v * 100 + w)
    four-number f g = placed-join 2 2 s at v w f g

pub ruleset halves = (two-first, two-second, four-first, four-second, two-number, four-number)

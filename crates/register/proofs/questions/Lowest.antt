-- The zeros below the lowest set bit of a word's complement count the marked numbers in front of the lowest free one. Assumes nothing.
use mathlib.Core.Path.{◌≡◌, refl, sym, ◌∙◌}
use mathlib.Core.Bool.{true, false, true≢false}
use mathlib.Core.List.{List}
use Prim.Native.Nat.{ℕ, zero, suc, ◌+◌, ◌-◌, ◌*◌, ◌/◌, ◌%◌, ◌^◌, ◌≤◌, ◌<◌}
use native.Mathlib.Nat.{pow-suc, mod-lt, zero-div}
use native.Mathlib.Omega.{arith}
use lib.Dec.{lit<}
use lib.ListN.{get_or}
use lib.Count.{under, count_trailing_zeros, trailing_le}
use mir.Syntax.{w64}
use mir.Val.{Fits}
use borrow.Author.Tests.{eq-eqb, ne_eqb}
use Rattle.base.proofs.Cases.{by-lt}
use Rattle.fileline.specs.seen.Bits.{bit}
use Rattle.fileline.proofs.seen.Laws.{at}
use Rattle.register.specs.Marks.{Marks, lowest}
use Rattle.register.specs.Register.{none_above}
use Rattle.register.proofs.Digits.{at-half, at_zero, bit_in}
use Rattle.register.proofs.Counted.{above-free}
use Rattle.register.proofs.Laws.{lowest-free, lowest-most, lowest-least}

-- ---- trailing zeros of a number

below-go : (k n j d : ℕ) → n % 2 ≡ d → ((i : ℕ) → i < count_trailing_zeros k (n / 2) → at (n / 2) i ≡ 0) → j < under d (count_trailing_zeros k (n / 2)) → at n j ≡ 0
below-go k n zero zero e rest l = at_zero n ∙ e
below-go k n (suc j) zero e rest l = at-half n j ∙ rest j (omega arith)
below-go k n j (suc d) e rest l = absurd (omega arith)

-- the bits below are clear
below : (k n j : ℕ) → j < count_trailing_zeros k n → at n j ≡ 0
unfolding count_trailing_zeros
below zero n j l = absurd (omega arith)
below (suc k) n j l = below-go k n j (n % 2) refl (below k (n / 2)) l

here-go : (k n d : ℕ) → n % 2 ≡ d → (count_trailing_zeros k (n / 2) < k → at (n / 2) (count_trailing_zeros k (n / 2)) ≡ 1) → under d (count_trailing_zeros k (n / 2)) < suc k → at n (under d (count_trailing_zeros k (n / 2))) ≡ 1
here-go k n zero e rest l = at-half n (count_trailing_zeros k (n / 2)) ∙ rest (omega arith)
here-go k n (suc d) e rest l = let small : n % 2 < 2 = mod-lt n (lit< tt) in rw (at_zero n) (omega arith)

-- and the bit behind them is set
here : (k n : ℕ) → count_trailing_zeros k n < k → at n (count_trailing_zeros k n) ≡ 1
unfolding count_trailing_zeros
here zero n l = absurd (omega arith)
here (suc k) n l = here-go k n (n % 2) refl (here k (n / 2)) l

some_go : (k n d : ℕ) → n % 2 ≡ d → (n ≡ 0 → ⊥) → (((n / 2) ≡ 0 → ⊥) → count_trailing_zeros k (n / 2) < k) → under d (count_trailing_zeros k (n / 2)) < suc k
some_go k n zero e some rest = let r = rest (λ z. some (omega arith)) in omega arith
some_go k n (suc d) e some rest = omega arith

-- there is one, if the number is not 0
some : (k n : ℕ) → n < 2 ^ k → (n ≡ 0 → ⊥) → count_trailing_zeros k n < k
unfolding count_trailing_zeros
some zero n l s = absurd (s (omega arith))
some (suc k) n l s =
    let two : 2 ^ suc k ≡ 2 ^ k * 2 = pow-suc 2 k in
    some_go k n (n % 2) refl s (λ t. some k (n / 2) (omega arith) t)

-- ---- the complement

other : (k w j : ℕ) → w < 2 ^ k → j < k → at ((2 ^ k - 1) - w) j + at w j ≡ 1
other zero w j l i = absurd (omega arith)
other (suc k) w zero l i =
    let two : 2 ^ suc k ≡ 2 ^ k * 2 = pow-suc 2 k in
    rw (at_zero ((2 ^ suc k - 1) - w), at_zero w) (omega arith)
other (suc k) w (suc j) l i =
    let two : 2 ^ suc k ≡ 2 ^ k * 2 = pow-suc 2 k in
    let half : ((2 ^ suc k - 1) - w) / 2 ≡ (2 ^ k - 1) - w / 2 = omega arith in
    rw (at-half ((2 ^ suc k - 1) - w) j, at-half w j, half) (other k (w / 2) j (omega arith) (omega arith))

-- ---- the lowest free number

never : {A : Type 0} → true ≡ false → A
never e = absurd (true≢false e)

-- all numbers below n are marked
abbrev pub Full : Marks → ℕ → Type 0
Full p n = (j : ℕ) → j < n → p j ≡ true

-- what is behind marked numbers alone, and is free if it is below m
lowest-is : (p : Marks) (m r : ℕ) → r ≤ m → Full p r → (r < m → p r ≡ false) → r ≡ lowest p m
lowest-is p m r most full not =
    let low : lowest p m ≤ r = by-lt r m (λ l. lowest-least p m r l (not l)) (λ l. omega (arith, lowest-most p m)) in
    let high : r ≤ lowest p m = by-lt (lowest p m) r (λ l. never (sym (full (lowest p m) l) ∙ lowest-free p m (omega arith))) (λ l. l) in
    omega arith

-- ---- the words

zero-at : (j : ℕ) → at 0 j ≡ 0
zero-at j = rw zero-div

-- the complement of a word
abbrev rest : ℕ → ℕ
rest w = (2 ^ 64 - 1) - w

pub zeros-fit : (w : ℕ) → Fits w64 (count_trailing_zeros 64 w)
zeros-fit w = omega (arith, trailing_le 64 w)

pub place-fits : (i w : ℕ) → i ≤ 16 → Fits w64 (64 * i + count_trailing_zeros 64 w)
place-fits i w l = omega (arith, trailing_le 64 w)

module _ (ws : List ℕ) (i : ℕ) (fits : Fits w64 (get_or ws i 0)) (full : Full (bit ws) (64 * i)) where
  -- marked where the complement's bit is clear
  marked : (j : ℕ) → j < 64 → at (rest (get_or ws i 0)) j ≡ 0 → bit ws (64 * i + j) ≡ true
  marked j l z = bit_in ws i j l ∙ eq-eqb (at (get_or ws i 0) j) 1 (omega (arith, other 64 (get_or ws i 0) j fits.fits l))

  -- all below z of this word are marked besides
  full-up : (z : ℕ) → z ≤ 64 → ((j : ℕ) → j < z → at (rest (get_or ws i 0)) j ≡ 0) → Full (bit ws) (64 * i + z)
  full-up z b clear j l =
      by-lt j (64 * i) (full j)
      (λ m. let e : 64 * i + (j - 64 * i) ≡ j = omega arith in rw e at (marked (j - 64 * i) (omega arith) (clear (j - 64 * i) (omega arith))))

  -- the word is full
  pub full-next : rest (get_or ws i 0) ≡ 0 → Full (bit ws) (64 * (i + 1))
  full-next z j l = full-up 64 (omega arith) (λ k _. rw z (zero-at k)) j (omega arith)

  -- it is not: the lowest free number stands in it
  module _ (above : none_above (bit ws) ≡ true) (s : rest (get_or ws i 0) ≡ 0 → ⊥) where
    inside : count_trailing_zeros 64 (rest (get_or ws i 0)) < 64
    inside = some 64 (rest (get_or ws i 0)) (omega arith) s

    full-below : Full (bit ws) (64 * i + count_trailing_zeros 64 (rest (get_or ws i 0)))
    full-below = full-up (count_trailing_zeros 64 (rest (get_or ws i 0))) (omega (arith, inside)) (below 64 (rest (get_or ws i 0)))

    free-bit : bit ws (64 * i + count_trailing_zeros 64 (rest (get_or ws i 0))) ≡ false
    free-bit =
        let z = count_trailing_zeros 64 (rest (get_or ws i 0)) in
        let h : at (rest (get_or ws i 0)) z ≡ 1 = here 64 (rest (get_or ws i 0)) inside in
        bit_in ws i z inside ∙ ne_eqb (at (get_or ws i 0) z) 1 (λ e. omega (arith, other 64 (get_or ws i 0) z fits.fits inside))

    -- number 1,000 is not marked
    in-range : 64 * i + count_trailing_zeros 64 (rest (get_or ws i 0)) ≤ 1000
    in-range =
        by-lt 1000 (64 * i + count_trailing_zeros 64 (rest (get_or ws i 0)))
        (λ l. never (sym (full-below 1000 l) ∙ above-free (bit ws) above 0 (omega arith)))
        (λ l. l)

    pub free-here : 64 * i + count_trailing_zeros 64 (rest (get_or ws i 0)) ≡ lowest (bit ws) 1000
    free-here = lowest-is (bit ws) 1000 (64 * i + count_trailing_zeros 64 (rest (get_or ws i 0))) in-range full-below (λ _. free-bit)

-- sixteen full words would hold number 1,000
pub full-never : (p : Marks) (i : ℕ) → none_above p ≡ true → Full p (64 * i) → 16 ≤ i → 1000 ≡ lowest p 1000
full-never p i above full l = never (sym (full 1000 (omega arith)) ∙ above-free p above 0 (omega arith))

pub ruleset finds = (zeros-fit, place-fits, full-next, free-here, full-never)

-- The ones of sixteen words are the numbers that are marked. Assumes nothing.
use mathlib.Core.Path.{◌≡◌, sym, ap, ◌∙◌}
use mathlib.Core.Bool.{true}
use mathlib.Core.List.{List}
use Prim.Native.Nat.{ℕ, zero, suc, ◌+◌, ◌-◌, ◌*◌, ◌/◌, ◌%◌, ◌^◌, ◌≤◌, ◌<◌}
use native.Mathlib.Nat.{pow-suc}
use native.Mathlib.Omega.{arith}
use lib.ListN.{get_or}
use lib.Count.{ones, ones_in, ones_step, ones-le}
use mir.Syntax.{w64}
use mir.Val.{Fits}
use Rattle.fileline.specs.seen.Bits.{bit}
use Rattle.register.specs.Marks.{Marks, taken, free}
use Rattle.register.specs.Register.{none_above}
use Rattle.register.proofs.Digits.{on, bit_in}
use Rattle.register.proofs.Counted.{taken_more, taken-same, above-taken, digits-taken}
use Rattle.register.proofs.Laws.{taken_free}

-- the ones of a number of d digits
ones-in : (d n : ℕ) → n < 2 ^ d → ones n ≡ ones_in d n
unfolding ones ones_in
ones-in zero n l = let z : n ≡ 0 = omega arith in rw z
ones-in (suc d) n l =
    let two : 2 ^ suc d ≡ 2 ^ d * 2 = pow-suc 2 d in
    ones_step n ∙ ap (λ (x : ℕ). n % 2 + x) (ones-in d (n / 2) (omega arith))

-- ---- one word more: m is what was counted before word i

module _ (ws : List ℕ) (i : ℕ) (fits : Fits w64 (get_or ws i 0)) where
  pub word_fits : Fits w64 (ones (get_or ws i 0))
  word_fits = omega (arith, ones-le 64 (get_or ws i 0) fits.fits)

  here : taken (λ j. bit ws (64 * i + j)) 64 ≡ ones (get_or ws i 0)
  here =
      taken-same (λ j. bit ws (64 * i + j)) (on (get_or ws i 0)) 64 (λ j l. bit_in ws i j l)
      ∙ sym (digits-taken 64 (get_or ws i 0)) ∙ sym (ones-in 64 (get_or ws i 0) fits.fits)

  module _ (m : ℕ) (e : m ≡ taken (bit ws) (64 * i)) where
    pub sum_fits : i ≤ 16 → Fits w64 (m + ones (get_or ws i 0))
    sum_fits l = omega (arith, ones-le 64 (get_or ws i 0) fits.fits, taken_free (bit ws) (64 * i))

    pub count-more : m + ones (get_or ws i 0) ≡ taken (bit ws) (64 * (i + 1))
    count-more = let next : 64 * (i + 1) ≡ 64 * i + 64 = omega arith in rw (e, next, taken_more (bit ws) (64 * i) 64, here)

-- ---- all sixteen

module _ (p : Marks) (above : none_above p ≡ true) (m i : ℕ) (e : m ≡ taken p (64 * i)) (a : i ≤ 16) (b : 16 ≤ i) where
  all : m ≡ taken p 1000
  all = let end : i ≡ 16 = omega arith in (rw end at e) ∙ above-taken p above

  pub taken-most : (k : ℕ) → 1000 ≤ k → m ≤ k
  taken-most k l = omega (arith, taken_free p 1000, all)

  pub free-left : 1000 - m ≡ free p 1000
  free-left = omega (arith, taken_free p 1000, all)

pub ruleset counts = (word_fits, sum_fits, count-more, taken-most, free-left)

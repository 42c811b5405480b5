-- The answers of the readers of amounts. Assumes nothing.
use mathlib.Core.Path.{◌≡◌, refl, ◌∙◌}
use mathlib.Core.Bool.{Bool, true, false}
use mathlib.Core.List.{List}
use Prim.Native.Nat.{ℕ, ◌+◌, ◌-◌, ◌*◌, ◌≤◌, ◌<◌}
use native.Mathlib.Nat.{mul-le-mul_left}
use native.Mathlib.Omega.{arith}
use lib.ListN.{length, take, drop, length-drop}
use lib.Seq.{take_all}
use Rattle.std.proofs.Common.{Result, Ok, Err}
use mir.Val.{Fits}
use mir.Syntax.{w64}
use borrow.Author.Tests.{lt-ltb, le-ltb}
use Rattle.base.specs.Pick.{pick}
use Rattle.base.specs.Seek.{seek, before}
use Rattle.refusal.specs.declared.Refusal.{Refusal}
use Rattle.refusal.specs.Numbers.{number_of}
use Rattle.paper.specs.Read.{Field, value, fault}
use Rattle.paper.specs.Bytes.{comma}
use Rattle.paper.specs.Numerals.{digits}
use Rattle.paper.specs.Amounts.{with_comma, read_amount}
use Rattle.numeral.specs.Told.{told}
use Rattle.numeral.proofs.Sound.{digits-sound}
use Rattle.numeral.proofs.given.Steps.{step_value, step-refused, was-value}

-- d is the comma's place, and m what was read before it
module _ (f : List ℕ) (d : ℕ) (h : d < length f) (e : d ≡ seek comma f) (m : Result ℕ Refusal) (p : told m ≡ digits 1 11 (take (d - 0) f)) where
  front : told m ≡ digits 1 11 (before comma f)
  front = let z : d - 0 ≡ seek comma f = omega arith in p ∙ rw z

  pub bad-crowns : (n : Refusal) → m ≡ Err n → fault (number_of n) ≡ with_comma f
  unfolding with_comma
  bad-crowns n a = step-refused _ _ m _ front n a refl

  -- k is what was read behind it
  module _ (v : ℕ) (a : m ≡ Ok v) (k : Result ℕ Refusal) (q : told k ≡ digits 2 2 (take (length f - (d + 1)) (drop (d + 1) f))) where
    back : told k ≡ digits 2 2 (drop (seek comma f + 1) f)
    back = rw (← e) (q ∙ rw (take_all (length f - (d + 1)) (drop (d + 1) f) (omega (arith, length-drop (d + 1) f))))

    pub bad-rest : (n : Refusal) → k ≡ Err n → fault (number_of n) ≡ with_comma f
    unfolding with_comma
    bad-rest n b = step_value _ _ m _ front v a (step-refused _ _ k _ back n b refl)

    pub both_read : (w : ℕ) → k ≡ Ok w → value (v * 100 + w) ≡ with_comma f
    unfolding with_comma
    both_read w b = step_value _ _ m _ front v a (step_value _ _ k _ back w b refl)

-- what was read fits a word: at most eleven digits, and two more behind them
module _ (m : Result ℕ Refusal) (v least : ℕ) (s : List ℕ) (p : told m ≡ digits least 11 s) (a : m ≡ Ok v) where
  pub fits-crowns : (by : ℕ) → by ≤ 100 → Fits w64 (v * by)
  fits-crowns by h =
      let l : v * by ≤ v * 100 = mul-le-mul_left v h in
      omega (arith, digits-sound least 11 s v (was-value m _ p v a))

  pub fits_both : (by : ℕ) → by ≤ 100 → (k : Result ℕ Refusal) (w few : ℕ) (t : List ℕ) → told k ≡ digits few 2 t → k ≡ Ok w → Fits w64 (v * by + w)
  fits_both by h k w few t q b =
      let l : v * by ≤ v * 100 = mul-le-mul_left v h in
      omega (arith, digits-sound least 11 s v (was-value m _ p v a), digits-sound few 2 t w (was-value k _ q w b))

-- with a comma, and without
module _ (f : List ℕ) (may : Bool) (most : ℕ) (r : Field ℕ) where
  pub no-comma : may ≡ false → r ≡ digits 1 most f → r ≡ read_amount may most f
  unfolding read_amount pick
  no-comma a e = e ∙ rw a

  module _ (a : may ≡ true) (d : ℕ) (e : d ≡ 0 + seek comma f) where
    pub comma-absent : length f ≤ d → r ≡ digits 1 most f → r ≡ read_amount may most f
    unfolding read_amount pick
    comma-absent l g = g ∙ rw a (simp (le-ltb (seek comma f) (length f) (omega arith)))

    pub comma-there : d < length f → r ≡ with_comma f → r ≡ read_amount may most f
    unfolding read_amount pick
    comma-there l g = g ∙ rw a (simp (lt-ltb (seek comma f) (length f) (omega arith)))

pub ruleset exits = (bad-crowns, bad-rest, both_read, fits-crowns, fits_both, no-comma, comma-absent, comma-there)

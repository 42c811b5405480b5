-- Two numbers side by side are one number. Assumes nothing.
use Rattle.std.proofs.Common.{◌≡◌, ℕ, ◌+◌, ◌-◌, ◌*◌, ◌^◌, List, [], ◌∷◌, ◌++◌, length, ap, ◌∙◌, mul_assoc, arith, length-append}
use native.Mathlib.Nat.{pow-succ'}
use Rattle.base.specs.Pick.{pick}
use Rattle.paper.specs.Read.{value}
use Rattle.paper.specs.Numerals.{digits_on, digits}
use Rattle.numeral.proofs.Digits.{in-range}
use Rattle.numeral.proofs.Sound.{same, on-head, on-tail, read-on, digits-least, digits-most}

-- s is read, and t read on
on-append : (u : ℕ) (s t : List ℕ) (v : ℕ) → digits_on u s ≡ value v → digits_on u (s ++ t) ≡ digits_on v t
unfolding digits_on pick
on-append u [] t v h = ap (λ (n : ℕ). digits_on n t) (same u v h)
on-append u (x ∷ s) t v h = simp (on-head u x s v h) (on-append (u * 10 + (x - 48)) s t v (on-tail u x s v h))

-- t read on from a number a greater
on-shift : (a u : ℕ) (t : List ℕ) (w : ℕ) → digits_on u t ≡ value w → digits_on (a + u) t ≡ value (a * 10 ^ length t + w)
unfolding digits_on pick
on-shift a u [] w h = ap (λ (n : ℕ). value n) (omega (arith, same u w h))
on-shift a u (x ∷ t) w h =
    let e : (a + u) * 10 + (x - 48) ≡ a * 10 + (u * 10 + (x - 48)) = omega arith in
    simp (on-head u x t w h)
    (ap (λ (n : ℕ). digits_on n t) e
    ∙ on-shift (a * 10) (u * 10 + (x - 48)) t w (on-tail u x t w h)
    ∙ ap (λ (n : ℕ). value (n + w)) (rw (pow-succ', ← mul_assoc)))

-- a digits and b digits, read as one number
pub digits-split : (a b : ℕ) (s t : List ℕ) (v w : ℕ) → digits a a s ≡ value v → digits b b t ≡ value w → digits (a + b) (a + b) (s ++ t) ≡ value (v * 10 ^ b + w)
digits-split a b s t v w f g =
    let m : length s ≡ a = omega (arith, digits-least a a s v f, digits-most a a s v f) in
    let n : length t ≡ b = omega (arith, digits-least b b t w g, digits-most b b t w g) in
    let l : length (s ++ t) ≡ a + b = omega (arith, length-append s t) in
    let z : v + 0 ≡ v = omega arith in
    in-range (a + b) (a + b) (s ++ t) (omega arith) (omega arith)
    ∙ on-append 0 s t v (read-on a a s v f)
    ∙ rw (z, n) at (on-shift v 0 t w (read-on b b t w g))

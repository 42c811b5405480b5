-- A number that was read from k digits is spelled in k digits as it stood. Assumes nothing.
use mathlib.Core.Path.{◌≡◌, ap, ◌∙◌}
use mathlib.Core.List.{List, [], ◌∷◌, ◌++◌, append-nil}
use Prim.Native.Nat.{ℕ, suc, ◌+◌, ◌-◌, ◌*◌, ◌/◌, ◌%◌, ◌≤◌}
use native.Mathlib.Omega.{arith}
use lib.ListN.{length}
use Rattle.paper.specs.Read.{value}
use Rattle.paper.specs.Numerals.{digits_on, digits, fixed_on, fixed}
use Rattle.numeral.proofs.Plain.{digit-range}
use Rattle.numeral.proofs.Sound.{same, on-head, on-tail, read-on, digits-least, digits-most}

-- the digit x behind the number u, taken off again
last-digit : (j u x : ℕ) (t : List ℕ) → 48 ≤ x → x ≤ 57 → fixed_on (suc j) (u * 10 + (x - 48)) t ≡ fixed_on j u (x ∷ t)
unfolding fixed_on
last-digit j u x t lo hi =
    let q : (u * 10 + (x - 48)) / 10 ≡ u = omega arith in
    let r : 48 + (u * 10 + (x - 48)) % 10 ≡ x = omega arith in
    rw (q, r)

-- the digits of s, read on from u, are taken off down to u
digits-off : (j u : ℕ) (s : List ℕ) (v : ℕ) (t : List ℕ) → digits_on u s ≡ value v → fixed_on (length s + j) v t ≡ fixed_on j u (s ++ t)
unfolding digits_on
digits-off j u [] v t h =
    let e : 0 + j ≡ j = omega arith in
    rw (e, same u v h)
digits-off j u (x ∷ s) v t h =
    let d = digit-range x (on-head u x s v h) in
    let e : suc (length s) + j ≡ length s + suc j = omega arith in
    ap (λ (n : ℕ). fixed_on n v t) e
    ∙ digits-off (suc j) (u * 10 + (x - 48)) s v t (on-tail u x s v h)
    ∙ last-digit j u x (s ++ t) d.0 d.1

pub digits-spelled : (k : ℕ) (s : List ℕ) (v : ℕ) → digits k k s ≡ value v → fixed k v ≡ s
unfolding fixed fixed_on
digits-spelled k s v h =
    let e : k ≡ length s + 0 = omega (arith, digits-least k k s v h, digits-most k k s v h) in
    ap (λ (n : ℕ). fixed_on n v []) e ∙ digits-off 0 0 s v [] (read-on k k s v h) ∙ append-nil s

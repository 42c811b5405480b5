-- The bits of a word: the lowest and the rest, and which bit of which word stands for a number. Assumes nothing.
use mathlib.Core.Path.{◌≡◌, refl, sym, ap, ◌∙◌}
use mathlib.Core.Bool.{false}
use mathlib.Core.List.{List}
use Prim.Native.Nat.{ℕ, zero, suc, ◌+◌, ◌*◌, ◌/◌, ◌%◌, ◌≤◌, ◌<◌}
use native.Mathlib.Nat.{mod-lt, div-one, zero-div}
use native.Mathlib.Omega.{arith}
use lib.Dec.{eqb, lit<}
use lib.ListN.{length, get_or, get_or-eq_default}
use lib.Pow.{shr-shr}
use Rattle.base.specs.Pick.{pick}
use Rattle.fileline.specs.seen.Bits.{bit}
use Rattle.fileline.proofs.seen.Laws.{at}
use Rattle.register.specs.Marks.{Marks}

-- is bit j of a word set?
abbrev pub on : ℕ → Marks
on w j = eqb (at w j) 1

-- a bit above the lowest is one of the rest
pub at-half : (w j : ℕ) → at w (suc j) ≡ at (w / 2) j
at-half w j =
    let e : suc j ≡ 1 + j = omega arith in
    rw e (ap (λ (x : ℕ). x % 2) (sym (shr-shr w 1 j)))

pub at_zero : (w : ℕ) → at w 0 ≡ w % 2
at_zero w = ap (λ (x : ℕ). x % 2) (div-one w)

digit : (x : ℕ) → x < 2 → pick (eqb x 1) 1 0 ≡ x
unfolding pick
digit zero l = refl
digit (suc zero) l = refl
digit (suc (suc x)) l = absurd (omega arith)

-- the lowest is worth 1
pub low_digit : (w : ℕ) → pick (on w 0) 1 0 ≡ w % 2
low_digit w = ap (λ (x : ℕ). pick (eqb x 1) 1 0) (at_zero w) ∙ digit (w % 2) (mod-lt w (lit< tt))

-- number j of word i
pub bit_in : (ws : List ℕ) (i j : ℕ) → j < 64 → bit ws (64 * i + j) ≡ on (get_or ws i 0) j
unfolding bit
bit_in ws i j l =
    let q : (64 * i + j) / 64 ≡ i = omega arith in
    let r : (64 * i + j) % 64 ≡ j = omega arith in
    rw (q, r)

-- no number behind the words is marked
pub bit-behind : (ws : List ℕ) (k : ℕ) → 64 * length ws ≤ k → bit ws k ≡ false
unfolding bit
bit-behind ws k l =
    let out : length ws ≤ k / 64 = omega arith in
    rw (get_or-eq_default ws 0 out, zero-div)

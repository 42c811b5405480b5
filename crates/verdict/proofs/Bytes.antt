-- The lines of a file have no more bytes in all than the file, and there are no more of them. Assumes nothing.
use mathlib.Core.List.{List, [], ◌∷◌}
use Prim.Native.Nat.{ℕ, suc, ◌+◌, ◌≤◌}
use native.Mathlib.Omega.{arith}
use lib.ListN.{length}
use Rattle.base.proofs.Cases.{either}
use Rattle.paper.specs.Lines.{Line, first, ended, behind, lines_of}

-- the bytes of all lines
unfoldable pub total : List Line → ℕ
total [] = 0
total (t ∷ ts) = length t.bytes + total ts

-- n bytes have room for the lines ts: for what stands in them, and for one at least of each
pub record Within (n : ℕ) (ts : List Line) : Type 0 where
  pub all : total ts ≤ n
  pub many : length ts ≤ n

-- one byte more
module _ (n i b : ℕ) where
  within-ended : (ts : List Line) → Within n ts → Within (suc n) (ended i ts)
  unfolding total
  within-ended ts w = record { all = omega (arith, w.all); many = omega (arith, w.many) }

  within-behind : (ts : List Line) → Within n ts → Within (suc n) (behind i ts)
  unfolding total
  within-behind [] w = record { all = omega arith; many = omega arith }
  within-behind (t ∷ ts) w = record { all = omega (arith, w.all); many = omega (arith, w.many) }

  within_first : (ts : List Line) → Within n ts → Within (suc n) (first i b ts)
  unfolding total
  within_first [] w = record { all = omega arith; many = omega arith }
  within_first (t ∷ ts) w = record { all = omega (arith, w.all); many = omega (arith, w.many) }

pub lines-within : (i : ℕ) (f : List ℕ) → Within (length f) (lines_of i f)
unfolding lines_of total
lines-within i [] = record { all = omega arith; many = omega arith }
lines-within i (b ∷ f) =
    let w = lines-within (suc i) f in
    let n = length f in
    either (Within (suc n)) _ (λ _. within-ended n i b _ w)
    (λ _. either (Within (suc n)) _ (λ _. either (Within (suc n)) _ (λ _. within-behind n i b _ w) (λ _. within-ended n i b _ w)) (λ _. within_first n i b _ w))

-- The turns of `word_at`: the bytes from the highest down. Assumes nothing.
use mathlib.Core.Path.{◌≡◌}
use mathlib.Core.List.{List}
use Prim.Native.Nat.{ℕ, suc, ◌+◌, ◌-◌, ◌*◌, ◌^◌, ◌≤◌, ◌<◌}
use native.Mathlib.Nat.{pow-suc, pow-le-pow_right}
use native.Mathlib.Omega.{arith}
use lib.Dec.{lit<}
use lib.ListN.{length, get_or, take, drop}
use lib.Seq.{drop-cons}
use Rattle.paper.specs.Words.{word_of}

-- what has been read where k bytes are left: the bytes from at + k on
abbrev pub Loaded : List ℕ → ℕ → ℕ → ℕ → Type 0
Loaded rows at w k = (k ≤ 8) × (w < 256 ^ (8 - k)) × (w ≡ word_of (take (8 - k) (drop (at + k) rows)))

-- there is room for a byte more
pub load-room : (w k : ℕ) → 0 < k → k ≤ 8 → w < 256 ^ (8 - k) → w < 256 ^ 7
load-room w k a b h =
    let g : 8 - k ≤ 7 = omega arith in
    let p : 256 ^ (8 - k) ≤ 256 ^ 7 = pow-le-pow_right (lit< tt) g in
    omega arith

module _ (rows : List ℕ) (at w k : ℕ) (a : 0 < k) (l : at + 8 ≤ length rows) (inv : Loaded rows at w k) (small : get_or rows (at + (k - 1)) 0 < 256) where
  pub load-more : Loaded rows at (get_or rows (at + (k - 1)) 0 + 256 * w) (k - 1)
  unfolding word_of
  load-more =
      let n : 8 - (k - 1) ≡ suc (8 - k) = omega arith in
      let j : suc (at + (k - 1)) ≡ at + k = omega arith in
      let h = inv.1 in
      let word : get_or rows (at + (k - 1)) 0 + 256 * w ≡ word_of (take (8 - (k - 1)) (drop (at + (k - 1)) rows)) = rw (n, drop-cons rows (at + (k - 1)) 0 (omega arith), j, inv.2) in
      (omega arith, rw n (omega (arith, pow-suc 256 (8 - k))), word)

-- The line of a refusal by its parts, counted one after another, and how long it is. Assumes nothing.
use mathlib.Core.Path.{◌≡◌, refl}
use mathlib.Core.List.{List, [], ◌∷◌, ◌++◌}
use Prim.Native.Nat.{ℕ, ◌+◌, ◌≤◌}
use native.Mathlib.Omega.{arith}
use lib.ListN.{length, length-append}
use Rattle.paper.specs.Bytes.{bytes}
use Rattle.paper.specs.Numerals.{decimal}
use Rattle.paper.specs.Explaining.{refused_line}
use Rattle.numeral.specs.counted.Counted.{Counted}
use Rattle.numeral.proofs.counted.Laws.{◌counted-then◌}
use Rattle.spelling.proofs.linelen.Lengths.{decimal-twenty}

-- a word and a number behind it
abbrev pub said : List ℕ → ℕ → List ℕ
said w n = w ++ decimal n

module _ (n l p : ℕ) where
  refused-is : refused_line n l p ≡ said (bytes "refused ") n ++ (said (bytes " line ") l ++ (said (bytes " byte ") p ++ (10 ∷ [])))
  unfolding refused_line
  refused-is = refl

  -- put_refused
  pub then-refused : {o o1 o2 o3 o4 : List ℕ} {at e f g r : ℕ} → Counted o at (said (bytes "refused ") n) o1 e
      → Counted o1 e (said (bytes " line ") l) o2 f → Counted o2 f (said (bytes " byte ") p) o3 g → Counted o3 g (10 ∷ []) o4 r
      → Counted o at (refused_line n l p) o4 r
  then-refused w v u t = rw refused-is (w counted-then v counted-then u counted-then t)

  -- by the digits of its numbers,
  pub refused-length : length (refused_line n l p) ≡ 21 + length (decimal n) + length (decimal l) + length (decimal p)
  unfolding refused_line
  refused-length =
      omega (
        arith,
        length-append (decimal n) (bytes " line " ++ (decimal l ++ (bytes " byte " ++ (decimal p ++ (10 ∷ []))))),
        length-append (decimal l) (bytes " byte " ++ (decimal p ++ (10 ∷ []))),
        length-append (decimal p) (10 ∷ []),
      )

  -- and whatever they are
  pub refused-most : length (refused_line n l p) ≤ 81
  refused-most = omega (arith, refused-length, decimal-twenty n, decimal-twenty l, decimal-twenty p)

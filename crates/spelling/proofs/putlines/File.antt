-- The line of an account file by its parts: room for each, and the line where they are written. Assumes nothing.
use mathlib.Core.Path.{◌≡◌}
use mathlib.Core.List.{List, [], ◌∷◌, ◌++◌, append_assoc}
use Prim.Native.Nat.{ℕ, ◌+◌, ◌≤◌}
use native.Mathlib.Omega.{arith}
use lib.ListN.{length, length-append}
use Rattle.base.specs.Put.{Wrote}
use Rattle.base.proofs.Put.{◌then◌}
use Rattle.numeral.proofs.Fixed.{fixed-length}
use Rattle.sheet.specs.declared.Sheet.{Sheet}
use Rattle.paper.specs.Numerals.{fixed}
use Rattle.paper.specs.FileLine.{spell_file}
use Rattle.spelling.proofs.putlines.Chain.{whole, part, rest, wrote_as}

-- fixed_space, code_end: the number in front of y
pub fixed-first : (k n : ℕ) (y : List ℕ) (at m : ℕ) → at + length (fixed k n ++ y) ≤ m → at + k ≤ m
fixed-first k n y at m h = omega (arith, fixed-length k n, length-append (fixed k n) y)

-- put_file_line
module _ (sh : Sheet) (kind number : ℕ) (o : List ℕ) (at : ℕ) where
  abbrev line : List ℕ
  line = spell_file sh kind number ++ (13 ∷ 10 ∷ [])

  file-is : line ≡ (49 ∷ 32 ∷ []) ++ ((fixed 4 kind ++ (32 ∷ [])) ++ ((fixed 6 number ++ (32 ∷ [])) ++ (fixed 4 sh.bank ++ (13 ∷ 10 ∷ []))))
  unfolding spell_file
  file-is = simp append_assoc

  module _ (h : at + length line ≤ length o) where
    pub file-one : at + 2 ≤ length o
    file-one = (part {o = o} (49 ∷ 32 ∷ []) _ (whole file-is h)).room

    module _ (o1 : List ℕ) (p : ℕ) (w : Wrote o at (49 ∷ 32 ∷ []) o1 p) where
      pub file-kind : p + length (fixed 4 kind ++ (32 ∷ [])) ≤ length o1
      file-kind = (part (fixed 4 kind ++ (32 ∷ [])) _ (rest w (whole file-is h))).room

      module _ (o2 : List ℕ) (q : ℕ) (v : Wrote o1 p (fixed 4 kind ++ (32 ∷ [])) o2 q) where
        pub file-number : q + length (fixed 6 number ++ (32 ∷ [])) ≤ length o2
        file-number = (part (fixed 6 number ++ (32 ∷ [])) _ (rest v (rest w (whole file-is h)))).room

        pub file-bank : (o3 : List ℕ) (r : ℕ) → Wrote o2 q (fixed 6 number ++ (32 ∷ [])) o3 r → (code : ℕ) → code ≡ sh.bank
            → r + length (fixed 4 code ++ (13 ∷ 10 ∷ [])) ≤ length o3
        file-bank o3 r u code e = rw e (rest u (rest v (rest w (whole file-is h)))).room

  pub then-file : {o1 o2 o3 o4 : List ℕ} {p q r n code : ℕ} → Wrote o at (49 ∷ 32 ∷ []) o1 p → Wrote o1 p (fixed 4 kind ++ (32 ∷ [])) o2 q
      → Wrote o2 q (fixed 6 number ++ (32 ∷ [])) o3 r → code ≡ sh.bank → Wrote o3 r (fixed 4 code ++ (13 ∷ 10 ∷ [])) o4 n → Wrote o at line o4 n
  then-file w v u e t = wrote_as file-is (w then v then u then (rw e at t))

pub ruleset files = (file-one, file-kind, file-number, file-bank, then-file)

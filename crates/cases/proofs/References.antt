-- Worked examples of document 02, W-206: an item's reference in lent rows, computed over the definitions. Assumes nothing.
use Prim.Native.Nat.{ℕ}
use mathlib.Core.List.{List, [], ◌∷◌, ◌++◌}
use mathlib.Core.Path.{◌≡◌, refl}
use Rattle.paper.specs.Bytes.{bytes}
use Rattle.paper.specs.Batch.{no_header}
use Rattle.paper.specs.Words.{blanks, rows_bytes}
use Rattle.paper.specs.Writing.{drafted, refusal, draft}
use Rattle.cases.specs.Asked.{today, rewrites}

-- the frame's account file and group, with a last word of their own
abbrev top : ℕ → List (List ℕ)
top last = (1 ∷ 1501 ∷ 0 ∷ (blanks 18 ++ (last ∷ last ∷ last ∷ []))) ∷ (2 ∷ 20180102 ∷ 19 ∷ 19 ∷ (blanks 17 ++ (last ∷ last ∷ last ∷ []))) ∷ []

-- an item of the frame: this amount and priority, a name of so many bytes at the start of what is lent, this reference, and two words that are unused
abbrev referred : ℕ → ℕ → ℕ → ℕ → ℕ → List ℕ
referred amount priority name reference last =
    3 ∷ 0 ∷ 0 ∷ 0 ∷ 705 ∷ 300 ∷ amount ∷ 42 ∷ 0 ∷ 558 ∷ priority ∷ (blanks 8 ++ (0 ∷ name ∷ reference ∷ last ∷ last ∷ []))

-- the frame's rows on C, with this item and these rows behind it
abbrev lent : List ℕ → List (List ℕ) → List ℕ
lent x rest = rows_bytes (top 0 ++ (x ∷ rest))

-- what the frame is written as
abbrev frame : List ℕ
frame = bytes "UHL1\r\n1 1501 000000 0300\r\n2 19-19 5001 020118\r\n705 5001 42 03000558\r\n3 +\r\n5 +\r\n"

-- 0 to 4,294,967,295 are written alike, and from 2^32 on it is 20 at field 21.
pub reference-range :
    (draft 3 today no_header (lent (referred 5001 5 0 0 0) []) [] ≡ drafted frame)
    × (draft 3 today no_header (lent (referred 5001 5 0 1 0) []) [] ≡ drafted frame)
    × (draft 3 today no_header (lent (referred 5001 5 0 4294967295 0) []) [] ≡ drafted frame)
    × (draft 3 today no_header (lent (referred 5001 5 0 4294967296 0) []) [] ≡ refusal 20 3 21)
    × (draft 3 today no_header (lent (referred 5001 5 0 4294967297 0) []) [] ≡ refusal 20 3 21)
    × (draft 3 today no_header (lent (referred 5001 5 0 18446744073709551615 0) []) [] ≡ refusal 20 3 21)
unfolding rewrites
reference-range = (refl, refl, refl, refl, refl, refl)

-- Words 22 and 23 of an item's row, and words 21 to 23 of other rows, are not looked at.
pub unused-words :
    (draft 3 today no_header (lent (referred 5001 5 0 7 18446744073709551615) []) [] ≡ drafted frame)
    × (draft 3 today no_header (rows_bytes (top 18446744073709551615 ++ (referred 5001 5 0 7 0 ∷ []))) [] ≡ drafted frame)
unfolding rewrites
unused-words = (refl, refl)

-- It is the item's last field: behind the row itself, the amount and the name, before the next row, and before all of 21.
pub reference-last :
    (draft 3 today no_header (rows_bytes (referred 5001 5 0 4294967296 0 ∷ [])) [] ≡ refusal 20 1 0)
    × (draft 3 today no_header (lent (referred 0 5 0 4294967296 0) []) [] ≡ refusal 20 3 6)
    × (draft 3 today no_header (lent (referred 5001 5 1 4294967296 0) []) [] ≡ refusal 20 3 19)
    × (draft 3 today no_header (lent (referred 5001 5 0 4294967296 0) (blanks 24 ∷ [])) [] ≡ refusal 20 3 21)
    × (draft 3 today no_header (lent (referred 5001 5 0 4294967295 0) (blanks 24 ∷ [])) [] ≡ refusal 20 4 0)
    × (draft 3 today no_header (lent (referred 5001 7 0 4294967296 0) []) [] ≡ refusal 20 3 21)
    × (draft 3 today no_header (lent (referred 5001 7 0 0 0) (referred 5001 5 0 4294967296 0 ∷ [])) [] ≡ refusal 20 4 21)
    × (draft 3 today no_header (lent (referred 5001 7 0 0 0) (referred 5001 5 0 4294967295 0 ∷ [])) [] ≡ refusal 21 3 10)
unfolding rewrites
reference-last = (refl, refl, refl, refl, refl, refl, refl, refl)

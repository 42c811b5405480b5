-- Bytes of a file in quotes, so that a log shows them whatever they are. Document 02, W-205. Assumes nothing.
use Rattle.std.specs.Prelude.{ℕ, ◌+◌, ◌/◌, ◌%◌, Bool, true, false, List, [], ◌∷◌, ◌++◌, eqb, ltb, length, take}
use Rattle.base.specs.Pick.{pick}
use Rattle.paper.specs.Bytes.{bytes, null}
use Rattle.paper.specs.Numerals.{decimal}

-- a byte that stands for itself: 32 to 126, but neither `"` nor `\`
unfoldable pub is_plain : ℕ → Bool
is_plain x = pick (ltb x 32) false (pick (ltb 126 x) false (pick (eqb x 34) false (pick (eqb x 92) false true)))

-- a digit of sixteen: 0 to 9, A to F
unfoldable pub hex_digit : ℕ → ℕ
hex_digit d = pick (ltb d 10) (48 + d) (55 + d)

-- the byte itself, or `\xHH`
unfoldable pub quoted_byte : ℕ → List ℕ
quoted_byte x = pick (is_plain x) (x ∷ []) (92 ∷ 120 ∷ hex_digit (x / 16 % 16) ∷ hex_digit (x % 16) ∷ [])

-- .. each of several
unfoldable pub quoted_bytes : List ℕ → List ℕ
quoted_bytes [] = []
quoted_bytes (x ∷ s) = quoted_byte x ++ quoted_bytes s

-- of how many bytes the first 60 are shown, where there are more
unfoldable pub of_how_many : ℕ → List ℕ
of_how_many n = pick (ltb 60 n) (bytes ", the first 60 of " ++ (decimal n ++ bytes " bytes")) []

-- at most 60 of them, and of how many
unfoldable pub quoted : List ℕ → List ℕ
quoted s = bytes "\"" ++ (quoted_bytes (take 60 s) ++ (bytes "\"" ++ of_how_many (length s)))

-- `nothing`, where there is no byte
unfoldable pub quoted_or : List ℕ → List ℕ
quoted_or s = pick (null s) (bytes "nothing") (quoted s)

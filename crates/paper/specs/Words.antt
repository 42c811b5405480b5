-- Words and rows of any kind in lent bytes: a word is eight bytes, the lowest first, and a row some words. docs/ROWS.md. Assumes nothing.
use Rattle.std.specs.Prelude.{ℕ, zero, suc, ◌+◌, ◌*◌, ◌/◌, ◌%◌, List, [], ◌∷◌, ◌++◌, length, take, drop, get_or}
use Rattle.base.specs.Pick.{pick}
use Rattle.paper.specs.Bytes.{null}

-- ---- a word

-- the number that bytes stand for
unfoldable pub word_of : List ℕ → ℕ
word_of [] = 0
word_of (b ∷ bs) = b + 256 * word_of bs

-- the lowest k bytes of a number
unfoldable pub word_bytes : ℕ → ℕ → List ℕ
word_bytes zero n = []
word_bytes (suc k) n = (n % 256) ∷ word_bytes k (n / 256)

-- ---- the words of a row

-- n words from the first byte on
unfoldable pub words : ℕ → List ℕ → List ℕ
words zero s = []
words (suc n) s = word_of (take 8 s) ∷ words n (drop 8 s)

-- word i of a row
abbrev pub word : List ℕ → ℕ → ℕ
word r i = get_or r i 0

-- n words that are 0
unfoldable pub blanks : ℕ → List ℕ
blanks zero = []
blanks (suc n) = 0 ∷ blanks n

-- words as bytes
unfoldable pub words_bytes : List ℕ → List ℕ
words_bytes [] = []
words_bytes (w ∷ ws) = word_bytes 8 w ++ words_bytes ws

-- ---- rows, one behind the other

-- n rows of w words from the first byte on; bytes that are left over make a row without words, whose kind is none
unfoldable pub rows_on : ℕ → ℕ → List ℕ → List (List ℕ)
rows_on w zero s = pick (null s) [] ([] ∷ [])
rows_on w (suc n) s = words w s ∷ rows_on w n (drop (8 * w) s)

-- all rows of w words of the lent bytes
unfoldable pub rows_of : ℕ → List ℕ → List (List ℕ)
rows_of w s = rows_on w (length s / (8 * w)) s

-- rows as bytes
unfoldable pub rows_bytes : List (List ℕ) → List ℕ
rows_bytes [] = []
rows_bytes (r ∷ rs) = words_bytes r ++ rows_bytes rs

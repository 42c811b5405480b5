-- Words and rows by their places in lent bytes. docs/ROWS.md. Assumes nothing.
use Rattle.std.specs.Prelude.{ℕ, List, take, drop}
use Rattle.paper.specs.Words.{word_of, rows_of}

-- the word that begins at a place
abbrev pub word_here : List ℕ → ℕ → ℕ
word_here s at = word_of (take 8 (drop at s))

-- the rows of w words from a place on
abbrev pub rows_from : ℕ → List ℕ → ℕ → List (List ℕ)
rows_from w s at = rows_of w (drop at s)

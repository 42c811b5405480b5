-- The lines of a file. Document 01, "Lines". Assumes nothing.
use Rattle.std.specs.Prelude.{ℕ, suc, Bool, false, List, [], ◌∷◌, eqb, drop}
use Rattle.base.specs.Pick.{pick}

-- a line: where it starts in the file, and its bytes without its end
pub record Line : Type 0 where
  pub start : ℕ
  pub bytes : List ℕ

-- a line of these two
abbrev pub line : ℕ → List ℕ → Line
line at s = record { start = at; bytes = s }

-- does an LF come next?
abbrev pub starts_lf : List ℕ → Bool
starts_lf [] = false
starts_lf (b ∷ bs) = eqb b 10

-- the byte b at i stands in front of the first of the lines after it
abbrev pub first : ℕ → ℕ → List Line → List Line
first i b [] = line i (b ∷ []) ∷ []
first i b (t ∷ ts) = line i (b ∷ t.bytes) ∷ ts

-- a line end at i: an empty line in front of the lines after it
abbrev pub ended : ℕ → List Line → List Line
ended i ts = line i [] ∷ ts

-- the LF of a CR LF, which its CR takes in
abbrev pub behind : ℕ → List Line → List Line
behind i [] = []
behind i (t ∷ ts) = ended i ts

-- The lines of bytes, the first of which stands at i. CR LF, LF and CR end a line; the last line may lack its end.
unfoldable pub lines_of : ℕ → List ℕ → List Line
lines_of i [] = []
lines_of i (b ∷ bs) =
    let rest = lines_of (suc i) bs in
    pick (eqb b 10) (ended i rest) (pick (eqb b 13) (pick (starts_lf bs) (behind i rest) (ended i rest)) (first i b rest))

-- the lines of the file f from the place of a line's start on
unfoldable pub lines_from : List ℕ → ℕ → List Line
lines_from f at = lines_of at (drop at f)

-- Fields that stand at fixed places, and the refusal that each of them has. Document 02, W-204. Assumes nothing.
use Rattle.std.specs.Prelude.{ℕ, zero, suc, ◌/◌, List, [], ◌∷◌, length, take, drop}
use Rattle.base.specs.Pick.{pick}
use Rattle.paper.specs.Read.{Field, value, fault}
use Rattle.paper.specs.Bytes.{null}

-- the n bytes from a place on
abbrev pub slice : ℕ → ℕ → List ℕ → List ℕ
slice at n s = take n (drop at s)

-- a read field is refused with 51, whatever is wrong with it
unfoldable pub or51 : {A : Type 0} → Field A → Field A
or51 (value a) = value a
or51 (fault n) = fault 51

-- ---- bytes cut into pieces of one size: records of a file, rows of lent bytes

-- k pieces of n bytes, and what is left over, if anything is, as one more
unfoldable pub pieces_on : ℕ → ℕ → List ℕ → List (List ℕ)
pieces_on n zero s = pick (null s) [] (s ∷ [])
pieces_on n (suc k) s = take n s ∷ pieces_on n k (drop n s)

-- all pieces of n bytes
unfoldable pub pieces : ℕ → List ℕ → List (List ℕ)
pieces n s = pieces_on n (length s / n) s

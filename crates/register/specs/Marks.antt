-- A set of numbers: how many of the numbers below m are in it and how many are not, and the lowest that is not. Request W-207. Assumes nothing.
use Rattle.std.specs.Prelude.{ℕ, zero, suc, ◌+◌, Bool, true, false, List, eqb}
use Rattle.base.specs.Pick.{pick}
use Rattle.paper.specs.FileLine.{member}

-- is a number in the set? It is marked then, and free otherwise
abbrev pub Marks : Type 0
Marks = ℕ → Bool

-- no number is marked
unfoldable pub none : Marks
none k = false

-- the numbers of the list besides
unfoldable pub with : List ℕ → Marks → Marks
with numbers p k = pick (member k numbers) true (p k)

-- the number n no more
unfoldable pub without : ℕ → Marks → Marks
without n p k = pick (eqb k n) false (p k)

-- how many of the numbers below m are marked
unfoldable pub taken : Marks → ℕ → ℕ
taken p zero = 0
taken p (suc m) = taken p m + pick (p m) 1 0

-- how many of them are free
unfoldable pub free : Marks → ℕ → ℕ
free p zero = 0
free p (suc m) = free p m + pick (p m) 0 1

-- the lowest free number of those from n on, of which there are k; behind them if none is free
unfoldable pub lowest_from : Marks → ℕ → ℕ → ℕ
lowest_from p n zero = n
lowest_from p n (suc k) = pick (p n) (lowest_from p (suc n) k) n

-- the lowest free number below m, or m
abbrev pub lowest : Marks → ℕ → ℕ
lowest p m = lowest_from p 0 m

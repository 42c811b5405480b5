-- A set of numbers as the bits of 64-bit words. Assumes nothing.
use Rattle.std.specs.Prelude.{ℕ, ◌/◌, ◌%◌, ◌^◌, ◌≡◌, Bool, true, List, eqb, get_or}
use Rattle.base.specs.Pick.{pick}
use Rattle.paper.specs.FileLine.{member}

-- whether n is in the set
unfoldable pub bit : List ℕ → ℕ → Bool
bit words n = eqb (get_or words (n / 64) 0 / 2 ^ (n % 64) % 2) 1

-- the set after is the set before and n besides
abbrev pub Marked : List ℕ → ℕ → List ℕ → Type 0
Marked before n after = (k : ℕ) → bit after k ≡ pick (eqb k n) true (bit before k)

-- the set has the numbers of l and no other
abbrev pub Holds : List ℕ → List ℕ → Type 0
Holds words l = (k : ℕ) → bit words k ≡ member k l

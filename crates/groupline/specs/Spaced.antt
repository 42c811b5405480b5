-- Where nearly every line of a group has two of its spaces. Document 01, "Lines", `2 TOTAL DATE`. Assumes nothing.
use Rattle.std.specs.Prelude.{◌-◌, ℕ, Bool, false, List, eqb, ltb, length, get_or}
use Rattle.base.specs.Pick.{pick}

-- behind the first byte, and before the last six
unfoldable pub spaced : List ℕ → Bool
spaced s = pick (ltb (length s) 9) false (pick (eqb (get_or s 1 0) 32) (eqb (get_or s (length s - 7) 0) 32) false)

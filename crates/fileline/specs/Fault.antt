-- Which refusal an account file's number gets, with the set of earlier ones as words. Document 01, "Lines", `1 KIND NUMBER BANK`.
-- Assumes nothing.
use Rattle.std.specs.Prelude.{ℕ, Bool, List, leb}
use Rattle.base.specs.Pick.{pick}
use Rattle.paper.specs.FileLine.{series}
use Rattle.fileline.specs.seen.Bits.{bit}

-- K (`interval`): 9 where the first three digits do not lie in the interval, or are in the set; else 0
unfoldable pub fault_in : Bool → ℕ → ℕ → List ℕ → ℕ → ℕ
fault_in interval from to words n =
    pick interval (pick (leb from (series n)) (pick (leb (series n) to) (pick (bit words (series n)) 9 0) 9) 9) 0

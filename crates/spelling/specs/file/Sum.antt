-- A group's sum, as it is taken from the words of the rows behind the group's own. docs/ROWS.md. Assumes nothing.
use Rattle.std.specs.Prelude.{ℕ, ◌+◌, List, [], ◌∷◌, eqb}
use Rattle.base.specs.Pick.{pick}
use Rattle.paper.specs.Words.{word}

-- the amounts of the items' rows that come before any other row
unfoldable pub item_sum : List (List ℕ) → ℕ
item_sum [] = 0
item_sum (r ∷ rs) = pick (eqb (word r 0) 3) (word r 6 + item_sum rs) 0

-- What is known of a reading: a refusal has a line's own number and points into the line, and so does the place of a group's total.
-- Assumes nothing.
use Prim.Native.Nat.{ℕ, ◌≤◌}
use Rattle.paper.specs.Entries.{Entry, head, file, group, item, close_group, close_file, Places, Counted, said, no}
use Rattle.exact.specs.named.Numbers.{Own}

-- a group's total begins in a line of that size
abbrev pub Spotted : ℕ → Entry → Places → Type 0
Spotted size (head h) p = Unit {0}
Spotted size (file k n) p = Unit {0}
Spotted size (group a t d) p = p.total ≤ size
Spotted size (item x) p = Unit {0}
Spotted size close_group p = Unit {0}
Spotted size close_file p = Unit {0}

pub data Named (size : ℕ) : Counted → Type 0 where
  says : {e : Entry} {w : ℕ} {p : Places} → Spotted size e p → Named size (said e w p)
  refuses : {n off : ℕ} → Own n → off ≤ size → Named size (no n off)

pub named-no : {size n off : ℕ} → Named size (no n off) → Own n × (off ≤ size)
named-no (refuses o h) = (o, h)

pub named-got : {size : ℕ} {e : Entry} {w : ℕ} {p : Places} → Named size (said e w p) → Spotted size e p
named-got (says h) = h

-- The words of an accepted file's rows fit eight bytes. Assumes nothing.
use mathlib.Core.List.{List, [], ◌∷◌}
use Prim.Native.Nat.{ℕ, ◌^◌, ◌<◌, ◌≤◌}
use native.Mathlib.Omega.{arith}
use lib.ListN.{length}
use Rattle.paper.specs.Batch.{Item, Group, AccountFile, Batch, Thing, item_things, group_things, things, sum, most14}
use Rattle.paper.specs.Spells.{GroupRules, FileRules}
use Rattle.out.specs.word.Sizes.{Smalls}
use Rattle.rowlaws.proofs.Row.{Fair}
use Rattle.rowlaws.proofs.Filled.{Rows, end, next}

-- every item's amount fits eight bytes
abbrev Fairs : List Thing → Type 0
Fairs [] = Unit {0}
Fairs (t ∷ ts) = Fair t × Fairs ts

rows_fit : {f : List ℕ} {rs : List (List ℕ)} {ts : List Thing} → Rows f rs ts → length f < 2 ^ 64 → Fairs ts → Smalls rs
rows_fit end l a = tt
rows_fit (next r rs) l (a, b) = (r.small l a, rows_fit rs l b)

-- ---- for a group's sum has at most 14 digits

fair-items : (xs : List Item) (r : List Thing) → sum xs ≤ most14 → Fairs r → Fairs (item_things xs r)
unfolding item_things sum
fair-items [] r h a = a
fair-items (x ∷ xs) r h a = (omega arith, fair-items xs r (omega arith) a)

fair-groups : (gs : List Group) (r : List Thing) → GroupRules gs → Fairs r → Fairs (group_things gs r)
unfolding group_things
fair-groups [] r h a = a
fair-groups (g ∷ gs) r (_, s, h) a = (tt, fair-items g.items _ s (fair-groups gs r h a))

fair-files : (fs : List AccountFile) → FileRules fs → Fairs (things fs)
unfolding things
fair-files [] h = tt
fair-files (f ∷ fs) (_, _, g, h) = (tt, fair-groups f.groups _ g (fair-files fs h))

pub batch-small : (f : List ℕ) (rs : List (List ℕ)) (b : Batch) → Rows f rs (things b) → FileRules b → length f < 2 ^ 64 → Smalls rs
batch-small f rs b r h l = rows_fit r l (fair-files b h)

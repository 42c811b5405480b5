-- Counts of lists that were kept last one first, and of the rows of a batch. Assumes nothing.
use mathlib.Core.Path.{◌≡◌, refl}
use mathlib.Core.Bool.{Bool, true, false}
use mathlib.Core.List.{List, [], ◌∷◌}
use Prim.Native.Nat.{◌+◌}
use native.Mathlib.Omega.{arith}
use lib.ListN.{length}
use Rattle.base.specs.Pick.{pick}
use Rattle.paper.specs.Batch.{Item, Group, AccountFile, Batch, Thing, item_things, group_things, things}
use Rattle.paper.specs.Judge.{rev_on}
use Rattle.tally.specs.Abs.{group_rows, file_rows}

pub map-pick : {A B : Type 0} (f : A → B) (t : Bool) (a b : A) → f (pick t a b) ≡ pick t (f a) (f b)
unfolding pick
map-pick f true a b = refl
map-pick f false a b = refl

-- ---- the order does not matter

pub group_rows-rev : (a m : List Group) → group_rows (rev_on a m) ≡ group_rows a + group_rows m
unfolding group_rows
group_rows-rev [] m = omega arith
group_rows-rev (g ∷ a) m = omega (arith, group_rows-rev a (g ∷ m))

pub file_rows-rev : (a m : List AccountFile) → file_rows (rev_on a m) ≡ file_rows a + file_rows m
unfolding file_rows
file_rows-rev [] m = omega arith
file_rows-rev (f ∷ a) m = omega (arith, file_rows-rev a (f ∷ m))

-- ---- rows: the batch as one list is as long as there are account files, groups and items

item-things : (xs : List Item) (r : List Thing) → length (item_things xs r) ≡ length xs + length r
unfolding item_things
item-things [] r = omega arith
item-things (x ∷ xs) r = omega (arith, item-things xs r)

group-things : (gs : List Group) (r : List Thing) → length (group_things gs r) ≡ group_rows gs + length r
unfolding group_things group_rows
group-things [] r = omega arith
group-things (g ∷ gs) r = omega (arith, item-things g.items (group_things gs r), group-things gs r)

pub things-rows : (b : Batch) → length (things b) ≡ file_rows b
unfolding things file_rows
things-rows [] = refl
things-rows (f ∷ fs) = omega (arith, group-things f.groups (things fs), things-rows fs)

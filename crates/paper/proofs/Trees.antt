-- The batch is got back from the list of its account files, groups and items. Assumes nothing.
use mathlib.Core.Path.{◌≡◌, refl, ap}
use mathlib.Core.List.{List, [], ◌∷◌}
use Rattle.paper.specs.Batch.{Item, Group, AccountFile, Batch, Thing, item_things, group_things, things, Heap, heap_of, batch_of}

abbrev heap : List Item → List Group → List AccountFile → Heap
heap xs gs fs = record { items = xs; groups = gs; files = fs }

module _ (r : List Thing) (gs : List Group) (fs : List AccountFile) (e : heap_of r ≡ heap [] gs fs) where
  heap_items : (xs : List Item) → heap_of (item_things xs r) ≡ heap xs gs fs
  unfolding item_things heap_of
  heap_items [] = e
  heap_items (x ∷ xs) = ap (λ (h : Heap). heap (x ∷ h.items) h.groups h.files) (heap_items xs)

module _ (r : List Thing) (fs : List AccountFile) (e : heap_of r ≡ heap [] [] fs) where
  heap-groups : (gs : List Group) → heap_of (group_things gs r) ≡ heap [] gs fs
  unfolding group_things heap_of
  heap-groups [] = e
  heap-groups (g ∷ gs) =
      ap (λ (h : Heap). heap [] (record { date = g.date; payer = g.payer; items = h.items } ∷ h.groups) h.files)
      (heap_items (group_things gs r) gs fs (heap-groups gs) g.items)

heap-files : (fs : List AccountFile) → heap_of (things fs) ≡ heap [] [] fs
unfolding things heap_of
heap-files [] = refl
heap-files (f ∷ fs) =
    ap (λ (h : Heap). heap [] [] (record { kind = f.kind; number = f.number; groups = h.groups } ∷ h.files))
    (heap-groups (things fs) fs (heap-files fs) f.groups)

pub batch-things : (b : Batch) → batch_of (things b) ≡ b
unfolding batch_of
batch-things b = ap (λ (h : Heap). h.files) (heap-files b)

-- A list of things is got back from its batch, if its rows are as "The batch" says. Assumes nothing.
use mathlib.Core.Path.{◌≡◌, refl, sym, ap}
use mathlib.Core.Bool.{true}
use mathlib.Core.List.{List, [], ◌∷◌}
use Prim.Native.Nat.{ℕ, suc}
use Rattle.base.proofs.Seek.{never}
use Rattle.paper.specs.Batch.{Thing, a_file, a_group, an_item, misnumbered, strange, item_things, group_things, things, Heap, heap_of, batch_of}
use Rattle.paper.specs.Proper.{Stage, need_file, need_group, need_item, any, group_due, item_due, Before, at_top, fine, rows_proper, batch_proper, after_file, after_group, after_item}
use Rattle.roundtrip.proofs.linesound.Rows.{file-proper, group-proper, item-proper, misnumbered-proper, strange-proper}

-- what does not stand in an account file, or not in a group, is where nothing else may come
abbrev Placed : Stage → Heap → Type 0
Placed need_file a = (a.items ≡ []) × (a.groups ≡ [])
Placed need_group a = a.items ≡ []
Placed need_item a = Unit {0}
Placed any a = Unit {0}

abbrev things_of : Heap → List Thing
things_of a = item_things a.items (group_things a.groups (things a.files))

file-placed : (st : Stage) (kind number : ℕ) (ts : List Thing) → Placed st (heap_of (a_file kind number ∷ ts))
unfolding heap_of
file-placed need_file kind number ts = (refl, refl)
file-placed need_group kind number ts = refl
file-placed need_item kind number ts = tt
file-placed any kind number ts = tt

group-placed : (st : Stage) (date : ℕ) (ts : List Thing) → group_due st ≡ true → (payer : _) → Placed st (heap_of (a_group date payer ∷ ts))
unfolding heap_of group_due
group-placed need_file date ts d payer = never (sym d)
group-placed need_group date ts d payer = refl
group-placed need_item date ts d payer = tt
group-placed any date ts d payer = tt

item-placed : (st : Stage) (a : Heap) → item_due st ≡ true → Placed st a
unfolding item_due
item-placed need_file a d = never (sym d)
item-placed need_group a d = never (sym d)
item-placed need_item a d = tt
item-placed any a d = tt

end-placed : (st : Stage) → Placed st (heap_of [])
unfolding heap_of
end-placed need_file = (refl, refl)
end-placed need_group = refl
end-placed need_item = tt
end-placed any = tt

rows-things : (k : ℕ) (b : Before) (ts : List Thing) → rows_proper k b ts ≡ fine → Placed b.stage (heap_of ts) × (things_of (heap_of ts) ≡ ts)
unfolding heap_of item_things group_things things
rows-things k b [] e = (end-placed b.stage, refl)
rows-things k b (a_file kind number ∷ ts) e =
    let (_, _, _, _, r) = file-proper k b kind number ts e in
    let (none, i) = rows-things (suc k) (after_file b) ts r in
    (file-placed b.stage kind number ts, ap (λ (l : List Thing). a_file kind number ∷ l) (rw none at i))
rows-things k b (a_group date payer ∷ ts) e =
    let (d, _, _, r) = group-proper k b date payer ts e in
    let (_, i) = rows-things (suc k) (after_group b payer) ts r in
    (group-placed b.stage date ts d payer, ap (λ (l : List Thing). a_group date payer ∷ l) i)
rows-things k b (an_item x ∷ ts) e =
    let (d, _, _, _, r) = item-proper k b x ts e in
    let (_, i) = rows-things (suc k) (after_item b x) ts r in
    (item-placed b.stage _ d, ap (λ (l : List Thing). an_item x ∷ l) i)
rows-things k b (misnumbered x ∷ ts) e = absurd (misnumbered-proper k b x ts e)
rows-things k b (strange ∷ ts) e = absurd (strange-proper k b ts e)

pub things-batch : (ts : List Thing) → batch_proper ts ≡ fine → things (batch_of ts) ≡ ts
unfolding batch_proper batch_of item_things group_things
things-batch ts e =
    let ((none, nothing), i) = rows-things 1 at_top ts e in
    let j : group_things (heap_of ts).groups (things (heap_of ts).files) ≡ ts = rw none at i in
    rw nothing at j

-- What the rows that are left keep to: their order, and each group's sum. Document 01, "The batch". Assumes nothing.
use Rattle.std.specs.Prelude.{◌≤◌, ◌≡◌, true, List, [], ◌∷◌}
use Rattle.paper.specs.Batch.{Thing, a_file, a_group, an_item, misnumbered, strange, most14}
use Rattle.paper.specs.Proper.{Stage, need_group, need_item, any, file_due, group_due, item_due, may_stop}
use Rattle.roundtrip.specs.flat.Flat.{group_sum}

-- each row is one that may come where it stands, and a group's sum has at most 14 digits
abbrev pub Ordered : Stage → List Thing → Type 0
Ordered st [] = may_stop st ≡ true
Ordered st (a_file kind number ∷ ts) = (file_due st ≡ true) × Ordered need_group ts
Ordered st (a_group date payer ∷ ts) = (group_due st ≡ true) × (group_sum ts ≤ most14) × Ordered need_item ts
Ordered st (an_item x ∷ ts) = (item_due st ≡ true) × Ordered any ts
Ordered st (misnumbered x ∷ ts) = ⊥
Ordered st (strange ∷ ts) = ⊥

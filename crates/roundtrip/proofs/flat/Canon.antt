-- The lines of rows in order are the canonical file of the batch that they hold. Assumes nothing.
use mathlib.Core.Path.{◌≡◌, refl, sym, ap}
use mathlib.Core.List.{List, [], ◌∷◌, ◌++◌, append_assoc}
use Prim.Native.Nat.{ℕ}
use Rattle.base.proofs.Seek.{never}
use Rattle.paper.specs.Accounts.{is_nobody}
use Rattle.sheet.specs.declared.Sheet.{Sheet}
use Rattle.paper.specs.Batch.{Header, sum, Thing, a_file, a_group, an_item, misnumbered, strange, Heap, heap_of, batch_of}
use Rattle.paper.specs.Proper.{Stage, need_file, need_group, need_item, any, file_due, group_due, item_due, may_stop, fine, batch_proper}
use Rattle.paper.specs.FileLine.{series, spell_file}
use Rattle.paper.specs.FirstLine.{spell_first}
use Rattle.paper.specs.GroupLine.{spell_group}
use Rattle.paper.specs.ItemLine.{spell_item}
use Rattle.paper.specs.Spells.{Context, for_head, for_group, for_item, item_dues, group_dues, file_dues, dues}
use Rattle.paper.specs.Canonical.{spell, text_of, canon}
use Rattle.roundtrip.specs.flat.Flat.{line_of, group_ends, file_ends, group_sum, flat}
use Rattle.roundtrip.specs.flat.Order.{Ordered}
use Rattle.roundtrip.proofs.flat.Order.{batch-ordered}

-- the items that the rows begin with are those that the group in front of them takes
pub sum-heap : (ts : List Thing) → sum (heap_of ts).items ≡ group_sum ts
unfolding group_sum heap_of sum
sum-heap [] = refl
sum-heap (a_file kind number ∷ ts) = refl
sum-heap (a_group date payer ∷ ts) = refl
sum-heap (an_item x ∷ ts) = rw (sum-heap ts)
sum-heap (misnumbered x ∷ ts) = sum-heap ts
sum-heap (strange ∷ ts) = sum-heap ts

-- a line and what follows it
line-then : (s r q : List ℕ) → r ≡ q → s ++ (13 ∷ 10 ∷ r) ≡ line_of s ++ q
line-then s r q e = rw e (sym (append_assoc s (13 ∷ 10 ∷ []) q))

module _ (sh : Sheet) (h : Header) where
  -- what a heap still spells at a stage
  abbrev text_from : List ℕ → Context → Stage → Heap → List ℕ
  text_from seen c need_file a = text_of sh (file_dues h seen a.files)
  text_from seen c need_group a = text_of sh (group_dues c.kind a.groups (file_dues h seen a.files))
  text_from seen c need_item a = text_of sh (item_dues c a.items (group_dues c.kind a.groups (file_dues h seen a.files)))
  text_from seen c any a = text_of sh (item_dues c a.items (group_dues c.kind a.groups (file_dues h seen a.files)))

  rows-flat : (seen : List ℕ) (c : Context) (st : Stage) (ts : List Thing) → Ordered st ts → text_from seen c st (heap_of ts) ≡ flat sh st ts
  unfolding flat heap_of text_of spell item_dues group_dues file_dues file_ends group_ends may_stop file_due group_due item_due
  rows-flat seen c need_file [] o = never (sym o)
  rows-flat seen c need_group [] o = never (sym o)
  rows-flat seen c need_item [] o = never (sym o)
  rows-flat seen c any [] o = refl
  rows-flat seen c need_file (a_file kind number ∷ ts) (d, o) = line-then (spell_file sh kind number) _ _ (rows-flat (series number ∷ seen) (for_group kind) need_group ts o)
  rows-flat seen c need_group (a_file kind number ∷ ts) (d, o) = never (sym d)
  rows-flat seen c need_item (a_file kind number ∷ ts) (d, o) = never (sym d)
  rows-flat seen c any (a_file kind number ∷ ts) (d, o) =
      ap (λ (l : List ℕ). file_ends any ++ l) (line-then (spell_file sh kind number) _ _ (rows-flat (series number ∷ seen) (for_group kind) need_group ts o))
  rows-flat seen c need_file (a_group date payer ∷ ts) (d, _, o) = never (sym d)
  rows-flat seen c need_group (a_group date payer ∷ ts) (d, _, o) =
      rw (sum-heap ts) (line-then (spell_group sh payer (group_sum ts) date) _ _ (rows-flat seen (for_item c.kind date (is_nobody payer)) need_item ts o))
  rows-flat seen c need_item (a_group date payer ∷ ts) (d, _, o) = never (sym d)
  rows-flat seen c any (a_group date payer ∷ ts) (d, _, o) =
      rw (sum-heap ts)
      (ap (λ (l : List ℕ). group_ends any ++ l) (line-then (spell_group sh payer (group_sum ts) date) _ _ (rows-flat seen (for_item c.kind date (is_nobody payer)) need_item ts o)))
  rows-flat seen c need_file (an_item x ∷ ts) (d, o) = never (sym d)
  rows-flat seen c need_group (an_item x ∷ ts) (d, o) = never (sym d)
  rows-flat seen c need_item (an_item x ∷ ts) (d, o) = line-then (spell_item sh x) _ _ (rows-flat seen c any ts o)
  rows-flat seen c any (an_item x ∷ ts) (d, o) = line-then (spell_item sh x) _ _ (rows-flat seen c any ts o)
  rows-flat seen c st (misnumbered x ∷ ts) o = absurd o
  rows-flat seen c st (strange ∷ ts) o = absurd o

  -- the canonical file is the first line and the lines of the rows
  pub canon-flat : (ts : List Thing) → batch_proper ts ≡ fine → canon sh h (batch_of ts) ≡ line_of (spell_first sh h) ++ flat sh need_file ts
  unfolding canon text_of spell dues batch_of
  canon-flat ts e = line-then (spell_first sh h) _ _ (rows-flat [] for_head need_file ts (batch-ordered ts e))

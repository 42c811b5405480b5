-- One row's lines, put: what each way through `fill_row` asks and leaves. Assumes nothing.
use mathlib.Core.Path.{◌≡◌, refl, sym, ap, ◌∙◌}
use mathlib.Core.Bool.{Bool, true, false}
use mathlib.Core.List.{List, ◌∷◌, ◌++◌}
use Prim.Native.Nat.{ℕ, ◌+◌, ◌-◌, ◌≤◌}
use native.Mathlib.Omega.{arith}
use lib.ListN.{length, drop}
use Rattle.base.specs.Put.{Wrote}
use Rattle.base.proofs.Put.{◌then◌}
use Rattle.out.proofs.put.Room.{room-first, room-then}
use Rattle.sheet.specs.declared.Sheet.{Sheet}
use Rattle.paper.specs.Accounts.{account}
use Rattle.paper.specs.Batch.{Thing, a_file, a_group, an_item, strange, most14}
use Rattle.paper.specs.FileLine.{spell_file}
use Rattle.paper.specs.GroupLine.{spell_group}
use Rattle.paper.specs.ItemLine.{spell_item}
use Rattle.paper.specs.Words.{words}
use Rattle.paper.specs.Rows.{thing_in}
use Rattle.roundtrip.specs.flat.Flat.{line_of, group_ends, file_ends, group_sum, flat}
use Rattle.rows.specs.declared.read.ItemRow.{ItemRow}
use Rattle.rows.specs.declared.read.Row.{Row}
use Rattle.rows.specs.declared.read.Row.TheVariants.{File, Group, Item}
use Rattle.rows.specs.read.Told.{item_of, told_row}
use Rattle.rows.specs.read.Sized.{Sized}
use Rattle.out.specs.word.Places.{rows_from}
use Rattle.rows.specs.list.From.{things_from}
use Rattle.rows.proofs.list.From.{things-step}
use Rattle.spelling.specs.declared.file.Step.{Step}
use Rattle.spelling.specs.file.Sum.{item_sum}
use Rattle.spelling.specs.file.Passing.{Passing}
use Rattle.spelling.specs.file.Lines.{stage_when, row_lines, due_after, Filled}
use Rattle.spelling.proofs.file.Passing.{pass-known, pass-told, pass-sized, pass-small, pass-sum}
use Rattle.spelling.proofs.file.Lines.{flat-row}

abbrev step : ℕ → Bool → Step
step n b = record { next = n; due = b }

module _ (sh : Sheet) (due : Bool) (t rows : List ℕ) (row : ℕ) (here : 192 ≤ length rows - row) (pass : Passing (things_from t rows row)) where
  -- the row, and those behind it
  abbrev this : Thing
  this = thing_in t (words 24 (drop row rows))

  abbrev behind : List Thing
  behind = things_from t rows (row + 192)

  row_is : things_from t rows row ≡ this ∷ behind
  row_is = things-step rows row t (omega arith)

  passed : Passing (this ∷ behind)
  passed = rw row_is at pass

  module _ (o : List ℕ) (at : ℕ) (room : at + length (flat sh (stage_when due) (things_from t rows row)) ≤ length o) where
    row_room : at + length (row_lines sh due this behind) ≤ length o
    row_room = room-first (row_lines sh due this behind) _ at (length o) (rw (row_is, flat-row sh due this behind) at room)

    -- the row was taken as r, since it is of a known kind
    known : this ≡ strange → ⊥
    known e = pass-known behind (rw e at passed)

    module _ (r : Row) (taken : (u : List ℕ) → (thing_in u (words 24 (drop row rows)) ≡ strange → ⊥) → told_row u r ≡ thing_in u (words 24 (drop row rows))) where
      said : told_row t r ≡ this
      said = taken t known

      module _ (kind number : ℕ) (e : r ≡ File kind number) where
        file-is : this ≡ a_file kind number
        file-is = sym said ∙ ap (told_row t) e

        file-lines : at + length (file_ends (stage_when due) ++ line_of (spell_file sh kind number)) ≤ length o
        unfolding row_lines
        file-lines = rw file-is at row_room

        pub room-file-ends : at + length (file_ends (stage_when due)) ≤ length o
        room-file-ends = room-first (file_ends (stage_when due)) _ at (length o) file-lines

        module _ (o1 : List ℕ) (p : ℕ) (v : Wrote o at (file_ends (stage_when due)) o1 p) where
          pub room-file : p + length (line_of (spell_file sh kind number)) ≤ length o1
          room-file = room-then (line_of (spell_file sh kind number)) v file-lines

          pub fill-file : (o2 : List ℕ) (q : ℕ) → Wrote o1 p (line_of (spell_file sh kind number)) o2 q → Filled sh due this behind o at o2 (step q false)
          unfolding row_lines due_after
          fill-file o2 q w = rw file-is (record { wrote = v then w; after = refl })

      module _ (date prefix base : ℕ) (e : r ≡ Group date prefix base) where
        group-is : this ≡ a_group date (account prefix base)
        group-is = sym said ∙ ap (told_row t) e

        group-passed : Passing (a_group date (account prefix base) ∷ behind)
        group-passed = rw group-is at passed

        total-is : item_sum (rows_from 24 rows (row + 192)) ≡ group_sum behind
        total-is = pass-sum date (account prefix base) t (rows_from 24 rows (row + 192)) group-passed

        pub sum_low : item_sum (rows_from 24 rows (row + 192)) ≤ most14
        sum_low = omega (arith, total-is, pass-small date (account prefix base) behind group-passed)

        module _ (total : ℕ) (s : total ≡ item_sum (rows_from 24 rows (row + 192))) where
          group_lines : at + length (group_ends (stage_when due) ++ line_of (spell_group sh (account prefix base) total date)) ≤ length o
          unfolding row_lines
          group_lines = rw (s, total-is) (rw group-is at row_room)

          pub room-group-ends : at + length (group_ends (stage_when due)) ≤ length o
          room-group-ends = room-first (group_ends (stage_when due)) _ at (length o) group_lines

          module _ (o1 : List ℕ) (p : ℕ) (v : Wrote o at (group_ends (stage_when due)) o1 p) where
            pub room-group : p + length (line_of (spell_group sh (account prefix base) total date)) ≤ length o1
            room-group = room-then (line_of (spell_group sh (account prefix base) total date)) v group_lines

            pub fill-group : (o2 : List ℕ) (q : ℕ) → Wrote o1 p (line_of (spell_group sh (account prefix base) total date)) o2 q
                → Filled sh due this behind o at o2 (step q false)
            unfolding row_lines due_after
            fill-group o2 q w = rw group-is (record { wrote = v then (rw (s, total-is) at w); after = refl })

      module _ (x : ItemRow) (e : r ≡ Item x) where
        item-is : this ≡ an_item (item_of t x)
        item-is =
            let here = sym said ∙ ap (told_row t) e in
            here ∙ pass-told t x behind (rw here at passed)

        pub sized-item : Sized t x
        sized-item = pass-sized t x behind (rw item-is at passed)

        pub room-item : at + length (line_of (spell_item sh (item_of t x))) ≤ length o
        unfolding row_lines
        room-item = rw item-is at row_room

        pub fill-item : (o1 : List ℕ) (q : ℕ) → Wrote o at (line_of (spell_item sh (item_of t x))) o1 q → Filled sh due this behind o at o1 (step q true)
        unfolding row_lines due_after
        fill-item o1 q w = rw item-is (record { wrote = w; after = refl })

pub ruleset asked = (room-file-ends, room-file, sum_low, room-group-ends, room-group, sized-item, room-item)

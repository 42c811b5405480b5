-- What a line says, by the reader of its kind; and the lines that have no row. Assumes nothing.
use mathlib.Core.Path.{◌≡◌, refl}
use mathlib.Core.Bool.{Bool}
use mathlib.Core.List.{List, []}
use Prim.Native.Nat.{ℕ}
use Rattle.sheet.specs.declared.Sheet.{Sheet}
use Rattle.paper.specs.Entries.{close_group, close_file, Listed, Counted, counted, head_line, group_end, file_end, kind_of}
use Rattle.paper.specs.FirstLine.{read_first}
use Rattle.paper.specs.FileLine.{read_file}
use Rattle.base.specs.Pick.{pick}
use Rattle.paper.specs.Terms.{collection, day_here, bank_due}
use Rattle.paper.specs.GroupLine.{read_group}
use Rattle.paper.specs.ItemLine.{read_item}
use Rattle.paper.specs.ClosingLine.{read_close}
use Rattle.paper.specs.Spells.{number_test, read_as, read_line}
use Rattle.paper.specs.Rows.{accepted, entry_row, line_row, single_after, single_behind}
use Rattle.paper.proofs.LineSays.{Asked, asking_number, LineSays, no-header, a_header, a_group_end, a_file_end, refused, first_says, group-end-says, file-end-says}
use Rattle.scan.specs.declared.kind.LineKind.{LineKind}
use Rattle.scan.specs.declared.kind.LineKind.TheVariants as kind
use Rattle.scan.specs.kind.Told as kinds
use Rattle.fileline.specs.take.Any.{any_number}
use Rattle.itemline.specs.Walk.{any_bank}

-- the line is of the kind that was told, and the reader of this kind is asked
module _ (sh : Sheet) (today : ℕ) (single : Bool) (s : List ℕ) (k : LineKind) (g : kinds.told k ≡ kind_of s) where
  pub said-file : k ≡ kind.File → read_line sh today (accepted single) s ≡ counted (read_file sh any_number s)
  unfolding read_line read_as number_test
  said-file e = rw (← g, e)

  pub said-group : k ≡ kind.Group → read_line sh today (accepted single) s ≡ counted (read_group sh today (day_here sh 0) s)
  unfolding read_line read_as
  said-group e = rw (← g, e)

  pub said-item : k ≡ kind.Item → read_line sh today (accepted single) s ≡ counted (read_item sh any_bank single s)
  unfolding read_line read_as bank_due collection pick
  said-item e = rw (← g, e)

  said-head : k ≡ kind.Head → read_line sh today (accepted single) s ≡ counted (read_first sh s)
  unfolding read_line read_as
  said-head e = rw (← g, e)

  said-group-end : k ≡ kind.GroupEnd → read_line sh today (accepted single) s ≡ counted (read_close sh.near close_group s)
  unfolding read_line read_as
  said-group-end e = rw (← g, e)

  said-file-end : k ≡ kind.FileEnd → read_line sh today (accepted single) s ≡ counted (read_close sh.near close_file s)
  unfolding read_line read_as
  said-file-end e = rw (← g, e)

-- ---- lines that have no row, and behind which items are read as before

pub record Quiet (at : ℕ) (single : Bool) (r : Counted) : Type 0 where
  pub rows : line_row at r ≡ []
  pub same : single_behind single r ≡ single

module _ (at : ℕ) (single : Bool) where
  module _ {sh : Sheet} {today : ℕ} {a : Asked} {w : List ℕ} where
    quiet-head : {r : Listed} → LineSays sh today a w head_line r → Quiet at single (counted r)
    unfolding counted line_row entry_row single_behind single_after
    quiet-head (no-header _) = record { rows = refl; same = refl }
    quiet-head (a_header _ _ _ _ _ _ _) = record { rows = refl; same = refl }
    quiet-head (refused _ _) = record { rows = refl; same = refl }

    quiet-group-end : {r : Listed} → LineSays sh today a w group_end r → Quiet at single (counted r)
    unfolding counted line_row entry_row single_behind single_after
    quiet-group-end a_group_end = record { rows = refl; same = refl }
    quiet-group-end (refused _ _) = record { rows = refl; same = refl }

    quiet-file-end : {r : Listed} → LineSays sh today a w file_end r → Quiet at single (counted r)
    unfolding counted line_row entry_row single_behind single_after
    quiet-file-end a_file_end = record { rows = refl; same = refl }
    quiet-file-end (refused _ _) = record { rows = refl; same = refl }

  module _ (sh : Sheet) (today : ℕ) (s : List ℕ) (k : LineKind) (g : kinds.told k ≡ kind_of s) where
    pub head-quiet : k ≡ kind.Head → Quiet at single (read_line sh today (accepted single) s)
    head-quiet e = rw (said-head sh today single s k g e) (quiet-head (first_says sh today (asking_number (λ _. 0)) s))

    pub group-end-quiet : k ≡ kind.GroupEnd → Quiet at single (read_line sh today (accepted single) s)
    group-end-quiet e = rw (said-group-end sh today single s k g e) (quiet-group-end (group-end-says sh today (asking_number (λ _. 0)) s))

    pub file-end-quiet : k ≡ kind.FileEnd → Quiet at single (read_line sh today (accepted single) s)
    file-end-quiet e = rw (said-file-end sh today single s k g e) (quiet-file-end (file-end-says sh today (asking_number (λ _. 0)) s))

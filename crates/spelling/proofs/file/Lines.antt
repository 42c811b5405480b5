-- A row's lines in front of those of the rows behind it. Assumes nothing.
use mathlib.Core.Path.{◌≡◌, refl, sym}
use mathlib.Core.Bool.{Bool}
use mathlib.Core.List.{List, [], ◌∷◌, ◌++◌, append_assoc}
use Rattle.sheet.specs.declared.Sheet.{Sheet}
use Rattle.paper.specs.Batch.{Thing, a_file, a_group, an_item, misnumbered, strange}
use Rattle.paper.specs.Proper.{need_file, need_group, need_item}
use Rattle.roundtrip.specs.flat.Flat.{group_ends, file_ends, flat}
use Rattle.spelling.specs.file.Lines.{stage_when, row_lines, due_after}

module _ (sh : Sheet) where
  -- no closing line is due behind an account file's row or a group's
  flat-group : (ts : List Thing) → flat sh need_group ts ≡ flat sh need_file ts
  unfolding flat file_ends group_ends
  flat-group [] = refl
  flat-group (a_file kind number ∷ ts) = refl
  flat-group (a_group date payer ∷ ts) = refl
  flat-group (an_item x ∷ ts) = refl
  flat-group (misnumbered x ∷ ts) = flat-group ts
  flat-group (strange ∷ ts) = flat-group ts

  flat-item : (ts : List Thing) → flat sh need_item ts ≡ flat sh need_file ts
  unfolding flat file_ends group_ends
  flat-item [] = refl
  flat-item (a_file kind number ∷ ts) = refl
  flat-item (a_group date payer ∷ ts) = refl
  flat-item (an_item x ∷ ts) = refl
  flat-item (misnumbered x ∷ ts) = flat-item ts
  flat-item (strange ∷ ts) = flat-item ts

  pub flat-row : (due : Bool) (x : Thing) (ts : List Thing)
      → flat sh (stage_when due) (x ∷ ts) ≡ row_lines sh due x ts ++ flat sh (stage_when (due_after due x)) ts
  unfolding flat row_lines due_after
  flat-row due (a_file kind number) ts = rw (flat-group ts) (sym (append_assoc (file_ends (stage_when due)) _ _))
  flat-row due (a_group date payer) ts = rw (flat-item ts) (sym (append_assoc (group_ends (stage_when due)) _ _))
  flat-row due (an_item x) ts = refl
  flat-row due (misnumbered x) ts = refl
  flat-row due strange ts = refl

  -- behind the last row
  pub flat-last : (due : Bool) → flat sh (stage_when due) [] ≡ file_ends (stage_when due)
  unfolding flat
  flat-last due = refl

-- The items that follow a group's line, where they were judged before. Assumes nothing.
use Rattle.std.specs.Prelude.{◌≡◌, Bool, true, List, [], ◌∷◌}
use Rattle.sheet.specs.declared.Sheet.{Sheet}
use Rattle.paper.specs.Lines.{Line}
use Rattle.paper.specs.Entries.{item_line, kind_of}
use Rattle.paper.specs.ItemLine.{read_item}
use Rattle.numeral.specs.placed.Said.{is_said}
use Rattle.itemline.specs.Walk.{any_bank}

-- each item, up to the first line of another kind, is read in a group that is single or not
abbrev pub ItemsSaid : Sheet → Bool → List Line → Type 0
ItemsSaid sh single [] = Unit {0}
ItemsSaid sh single (t ∷ ts) =
    kind_of t.bytes ≡ item_line → (is_said (read_item sh any_bank single t.bytes) ≡ true) × ItemsSaid sh single ts

-- Lines none of which is refused, as those of an accepted file are. Document 01, "Lines". Assumes nothing.
use Rattle.std.specs.Prelude.{ℕ, ◌≡◌, Bool, true, List, [], ◌∷◌}
use Rattle.sheet.specs.declared.Sheet.{Sheet}
use Rattle.paper.specs.Lines.{Line}
use Rattle.paper.specs.Spells.{read_line}
use Rattle.paper.specs.Rows.{accepted, single_behind}
use Rattle.numeral.specs.placed.Said.{is_said}

-- each line says an entry; behind a group's line items are read as that group's
abbrev pub AllSaid : Sheet → ℕ → Bool → List Line → Type 0
AllSaid sh today single [] = Unit {0}
AllSaid sh today single (t ∷ ts) =
    (is_said (read_line sh today (accepted single) t.bytes) ≡ true)
    × AllSaid sh today (single_behind single (read_line sh today (accepted single) t.bytes)) ts

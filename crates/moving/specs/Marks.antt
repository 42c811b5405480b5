-- Batches without ` NP:` in any text, a style without names, and an answer without its header. Document 02, W-201. Assumes nothing.
use Rattle.std.specs.Prelude.{false, List, [], ◌∷◌}
use Rattle.sheet.specs.declared.Style.{Style}
use Rattle.paper.specs.Batch.{Item, Group, Batch, no_header}
use Rattle.paper.specs.Reading.{ReadAnswer}
use Rattle.uncut.specs.Unmarked.{Unmarked}

-- no part of these items holds ` NP:`
abbrev pub ItemsUnmarked : List Item → Type 0
ItemsUnmarked [] = Unit {0}
ItemsUnmarked (x ∷ xs) = Unmarked x.parts × ItemsUnmarked xs

-- .. of the items of these groups
abbrev pub GroupsUnmarked : List Group → Type 0
GroupsUnmarked [] = Unit {0}
GroupsUnmarked (g ∷ gs) = ItemsUnmarked g.items × GroupsUnmarked gs

-- .. of a whole batch
abbrev pub BatchUnmarked : Batch → Type 0
BatchUnmarked [] = Unit {0}
BatchUnmarked (f ∷ fs) = GroupsUnmarked f.groups × BatchUnmarked fs

-- a style that reads no name; all else is as the style has it
abbrev pub unnamed : Style → Style
unnamed y = record { av = y.av; may = y.may; names = false; cuts = y.cuts; clean = y.clean; most = y.most }

-- an answer that a sheet without a header gives in the place of another
abbrev pub headless : ReadAnswer → ReadAnswer
headless r =
    record { number = r.number; line = r.line; byte = r.byte; rows = r.rows; warnings = r.warnings; needed = r.needed; header = no_header }

-- What an item's line warns of: K's priority digit, then each part that is cut, then the name that is. Document 02, W-205. Assumes nothing.
use Rattle.std.specs.Prelude.{ℕ, Bool, List, [], map}
use Rattle.sheet.specs.declared.Sheet.{Sheet}
use Rattle.paper.specs.Lines.{Line}
use Rattle.paper.specs.ItemLine.{read_item}
use Rattle.itemline.specs.Walk.{any_bank}
use Rattle.why.specs.declared.Finding.{Finding}
use Rattle.why.specs.Warned.{on_listed, noticed}

-- line k, the line t, in a group that is single or not
unfoldable pub item_warned : Sheet → ℕ → ℕ → Line → Bool → List Finding
item_warned sh today k t single =
    on_listed (read_item sh any_bank single t.bytes) (λ x. map (noticed sh today k t x.places) x.warnings) []

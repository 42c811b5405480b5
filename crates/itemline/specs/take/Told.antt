-- What a tail that was taken stands for. Document 01, "Lines", tail. Assumes nothing.
use Rattle.std.specs.Prelude.{ℕ, List}
use Rattle.sheet.specs.declared.Style.{Style}
use Rattle.paper.specs.Texts.{Noted}
use Rattle.paper.specs.Entries.{Counted}
use Rattle.itemline.specs.declared.tail.Tail.{Tail}
use Rattle.itemline.specs.tail.Told.{told_text, TextInside}

-- the reading goes on with the symbol, and with no text or the text of the line s from its place on
abbrev pub told_tail : Style → List ℕ → Tail → (ℕ → Noted → Counted) → Counted
told_tail y s t k = told_text y s t.text (k t.specific)

-- a text begins in the line, or with its end
abbrev pub Inside : List ℕ → Tail → Type 0
Inside s t = TextInside s t.text

-- The two lines of a sheet, spelled out. Assumes nothing.
use mathlib.Core.Path.{◌≡◌, refl}
use mathlib.Core.List.{[], ◌∷◌, ◌++◌}
use Rattle.base.specs.Pick.{pick}
use Rattle.paper.specs.Bytes.{bytes}
use Rattle.paper.specs.Batch.{no_header}
use Rattle.paper.specs.Numerals.{dec_on, decimal}
use Rattle.paper.specs.Reading.{refused_at, accepted_as}
use Rattle.verdict.specs.Sheets.{accepted_words, refused_words, verdict_words, sheet_line}

pub lines : (sheet_line 67 (accepted_as no_header 12 1) ≡ bytes "Sheet C: accepted, warnings 1." ++ (10 ∷ []))
    × (sheet_line 69 (refused_at 8 2 74) ≡ bytes "Sheet E: refused (8) at line 2, byte 74." ++ (10 ∷ []))
unfolding accepted_as refused_at accepted_words refused_words verdict_words sheet_line decimal dec_on pick
lines = (refl, refl)

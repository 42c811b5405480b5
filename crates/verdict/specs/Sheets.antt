-- What each known sheet says of a file on a day, in a line and in a bit. Document 02, W-205. Assumes nothing.
use Rattle.std.specs.Prelude.{ℕ, ◌+◌, ◌-◌, ◌^◌, List, [], ◌∷◌, ◌++◌, eqb, length, Some}
use Rattle.base.specs.Pick.{pick}
use Rattle.sheet.specs.declared.Sheet.{Sheet}
use Rattle.sheet.specs.Sheets.{sheets}
use Rattle.paper.specs.Bytes.{bytes}
use Rattle.paper.specs.Numerals.{decimal}
use Rattle.paper.specs.Judge.{judge}
use Rattle.paper.specs.Reading.{ReadAnswer, read_with}
use Rattle.why.specs.Finding.{accepts}
use Rattle.verdict.specs.declared.Verdict.{Verdict}
use Rattle.verdict.specs.Told.{verdict_of}

-- ---- in lines

-- `: accepted, warnings W.` and LF
unfoldable pub accepted_words : ℕ → List ℕ
accepted_words w = bytes ": accepted, warnings " ++ (decimal w ++ (46 ∷ 10 ∷ []))

-- `: refused (N) at line L, byte B.` and LF
unfoldable pub refused_words : ℕ → ℕ → ℕ → List ℕ
refused_words n l p = bytes ": refused (" ++ (decimal n ++ (bytes ") at line " ++ (decimal l ++ (bytes ", byte " ++ (decimal p ++ (46 ∷ 10 ∷ []))))))

-- the one or the other of a verdict; number 0 is accepted
unfoldable pub verdict_words : Verdict → List ℕ
verdict_words v = pick (eqb v.number 0) (accepted_words v.warnings) (refused_words v.number v.line v.byte)

-- `Sheet K` before it: the sheet's letter, and the answer that reading would give
unfoldable pub sheet_line : ℕ → ReadAnswer → List ℕ
sheet_line letter a = bytes "Sheet " ++ (letter ∷ verdict_words (verdict_of a))

-- the lines of some sheets. No rows are lent, so there is room for as many as the file has bytes: 16 cannot come from the file.
unfoldable pub lines_on : ℕ → List ℕ → List Sheet → List ℕ
lines_on today f [] = []
lines_on today f (sh ∷ shs) = sheet_line sh.letter (read_with (Some sh) today f (length f)) ++ lines_on today f shs

-- of all known sheets, in the order of their numbers
unfoldable pub sheet_lines : ℕ → List ℕ → List ℕ
sheet_lines today f = lines_on today f sheets

-- ---- in bits

-- bit n - 1 of each sheet n that accepts the file, of some sheets
unfoldable pub accepting_on : ℕ → List ℕ → List Sheet → ℕ
accepting_on today f [] = 0
accepting_on today f (sh ∷ shs) = pick (accepts (judge sh today f)) (2 ^ (sh.number - 1)) 0 + accepting_on today f shs

-- of all known sheets
unfoldable pub accepting : ℕ → List ℕ → ℕ
accepting today f = accepting_on today f sheets

-- What is found in a file, in words. Document 02, W-205. Assumes nothing.
use Rattle.std.specs.Prelude.{ℕ, List, ◌∷◌, ◌++◌, Option, Some, None}
use Rattle.base.specs.Pick.{pick}
use Rattle.sheet.specs.declared.Sheet.{Sheet}
use Rattle.sheet.specs.Sheets.{sheet_of}
use Rattle.paper.specs.Bytes.{bytes}
use Rattle.paper.specs.Numerals.{decimal}
use Rattle.paper.specs.Days.{real_day}
use Rattle.paper.specs.Judge.{Answer, Refused, Accepted, judge}
use Rattle.paper.specs.Reading.{row_count}
use Rattle.paper.specs.Writing.{Draft, drafted, refusal}
use Rattle.listing.specs.Listed.{listed}
use Rattle.verdict.specs.Sheets.{sheet_lines}
use Rattle.findings.specs.Findings.{findings, in_words}

-- `Refused on sheet K.` and LF
unfoldable pub refused_heading : ℕ → List ℕ
refused_heading letter = bytes "Refused on sheet " ++ (letter ∷ bytes ".\n")

-- `, rows R, warnings W.` and LF
unfoldable pub counts_words : ℕ → ℕ → List ℕ
counts_words rows w = bytes ", rows " ++ (decimal rows ++ (bytes ", warnings " ++ (decimal w ++ bytes ".\n")))

-- `Accepted on sheet K, rows R, warnings W.` and LF
unfoldable pub accepted_heading : ℕ → ℕ → ℕ → List ℕ
accepted_heading letter rows w = bytes "Accepted on sheet " ++ (letter ∷ counts_words rows w)

-- the one or the other
unfoldable pub heading : ℕ → Answer → List ℕ
heading letter (Refused n l p) = refused_heading letter
heading letter (Accepted h b w) = accepted_heading letter (row_count b) w

-- the heading, a sentence a finding, a line a sheet
unfoldable pub text_on : Sheet → ℕ → List ℕ → List ℕ
text_on sh today f =
    heading sh.letter (judge sh today f) ++ (listed (in_words sh today) f (findings sh today f) ++ sheet_lines today f)

-- first 1 and 2, which have no text
unfoldable pub explanation_with : Option Sheet → ℕ → List ℕ → Draft
explanation_with (Some sh) today f = pick (real_day today) (drafted (text_on sh today f)) (refusal 2 0 0)
explanation_with None today f = refusal 1 0 0

-- The answer and the output afterwards are those of a draft: number 0 with the bytes written, 16 with the bytes needed, 1 and 2 with none.
unfoldable pub explanation : ℕ → ℕ → List ℕ → Draft
explanation sheet today f = explanation_with (sheet_of sheet) today f

-- The whole answer of reading, and what it leaves in the lent rows. Document 01, "Numbers returned". Assumes nothing.
use Rattle.std.specs.Prelude.{ℕ, ◌*◌, ◌/◌, false, List, ◌++◌, ltb, length, drop, Option, Some, None}
use Rattle.base.specs.Pick.{pick}
use Rattle.sheet.specs.declared.Sheet.{Sheet}
use Rattle.sheet.specs.Sheets.{sheet_of}
use Rattle.paper.specs.Days.{real_day}
use Rattle.paper.specs.Batch.{Batch, Header, no_header, things}
use Rattle.paper.specs.Lines.{lines_of}
use Rattle.paper.specs.Judge.{Answer, Refused, Accepted, judge}
use Rattle.paper.specs.Words.{rows_bytes}
use Rattle.paper.specs.Rows.{row_size, lines_rows}

-- numbers that are not named are 0, and a header that is not read is C's
pub record ReadAnswer : Type 0 where
  pub number : ℕ
  pub line : ℕ
  pub byte : ℕ
  pub rows : ℕ
  pub warnings : ℕ
  pub needed : ℕ
  pub header : Header

-- a refusal: its number, line and byte
unfoldable pub refused_at : ℕ → ℕ → ℕ → ReadAnswer
refused_at n l p = record { number = n; line = l; byte = p; rows = 0; warnings = 0; needed = 0; header = no_header }

-- 16: the rows needed
unfoldable pub needs : ℕ → ReadAnswer
needs n = record { number = 16; line = 0; byte = 0; rows = 0; warnings = 0; needed = n; header = no_header }

-- 0: header, rows and warnings
unfoldable pub accepted_as : Header → ℕ → ℕ → ReadAnswer
accepted_as h n w = record { number = 0; line = 0; byte = 0; rows = n; warnings = w; needed = 0; header = h }

-- one row for each account file, group and item
abbrev pub row_count : Batch → ℕ
row_count b = length (things b)

-- last 16: `room` rows are lent
unfoldable pub answered : ℕ → Answer → ReadAnswer
answered room (Refused n l p) = refused_at n l p
answered room (Accepted h b w) = pick (ltb room (row_count b)) (needs (row_count b)) (accepted_as h (row_count b) w)

-- first 1 and 2, then the file
unfoldable pub read_with : Option Sheet → ℕ → List ℕ → ℕ → ReadAnswer
read_with (Some sh) today f room = pick (real_day today) (answered room (judge sh today f)) (refused_at 2 0 0)
read_with None today f room = refused_at 1 0 0

-- room is how many whole rows the lent bytes have
unfoldable pub read_answer : ℕ → ℕ → List ℕ → List ℕ → ReadAnswer
read_answer sheet today f lent = read_with (sheet_of sheet) today f (length lent / row_size)

-- ---- the lent rows afterwards: the rows in front of the old bytes behind them; a refusal leaves them as they were

-- the rows of an accepted file, if there is room for them
unfoldable pub filled : Sheet → ℕ → List ℕ → List ℕ → Answer → List ℕ
filled sh today f lent (Refused n l p) = lent
filled sh today f lent (Accepted h b w) =
    pick (ltb (length lent / row_size) (row_count b)) lent
    (rows_bytes (lines_rows sh today false (lines_of 0 f)) ++ drop (row_size * row_count b) lent)

-- 1 and 2 leave the rows alone too
unfoldable pub rows_with : Option Sheet → ℕ → List ℕ → List ℕ → List ℕ
rows_with (Some sh) today f lent = pick (real_day today) (filled sh today f lent (judge sh today f)) lent
rows_with None today f lent = lent

-- of the sheet that the number names
unfoldable pub rows_after : ℕ → ℕ → List ℕ → List ℕ → List ℕ
rows_after sheet today f lent = rows_with (sheet_of sheet) today f lent

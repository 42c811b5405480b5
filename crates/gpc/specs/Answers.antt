-- The whole answers of reading and writing statements, and what they leave in what was lent. Document 02, W-204; document 01, "Numbers
-- returned". Assumes nothing.
use Rattle.std.specs.Prelude.{ℕ, suc, ◌+◌, ◌*◌, ◌/◌, List, ◌++◌, ltb, length, drop}
use Rattle.base.specs.Pick.{pick}
use Rattle.paper.specs.Writing.{Draft, drafted, refusal}
use Rattle.gpc.specs.Records.{record_size, records_in}
use Rattle.gpc.specs.Statements.{Statement, things, record_spots, row_spots, Judged, accepted, refused, judge}
use Rattle.gpc.specs.Canonical.{canon}
use Rattle.gpc.specs.StatementRows.{statement_row, things_in, testeds, things_rows}

-- ---- reading

-- numbers that are not named are 0
pub record StatementAnswer : Type 0 where
  pub number : ℕ
  pub line : ℕ
  pub byte : ℕ
  pub rows : ℕ
  pub needed : ℕ

-- a refusal: its number; the record's number from 1, and the byte in the file
abbrev pub refused_at : ℕ → ℕ → ℕ → StatementAnswer
refused_at n k off = record { number = n; line = suc k; byte = record_size * k + off; rows = 0; needed = 0 }

-- 16: the rows needed
abbrev pub needs : ℕ → StatementAnswer
needs n = record { number = 16; line = 0; byte = 0; rows = 0; needed = n }

-- 0: the rows
abbrev pub accepted_as : ℕ → StatementAnswer
accepted_as n = record { number = 0; line = 0; byte = 0; rows = n; needed = 0 }

-- a row for each record
abbrev pub row_count : List Statement → ℕ
row_count ss = length (things ss)

-- last 16: `room` rows are lent
unfoldable pub answered : ℕ → Judged → StatementAnswer
answered room (refused n k off) = refused_at n k off
answered room (accepted ss) = pick (ltb room (row_count ss)) (needs (row_count ss)) (accepted_as (row_count ss))

-- what a file is judged to be
unfoldable pub judge_file : List ℕ → Judged
judge_file f = judge record_spots (records_in f)

-- room is how many whole rows the lent bytes have
unfoldable pub statement_answer : List ℕ → List ℕ → StatementAnswer
statement_answer f lent = answered (length lent / statement_row) (judge_file f)

-- the lent rows afterwards: the rows in front of the old bytes behind them; a refusal leaves them as they were
unfoldable pub filled : List ℕ → Judged → List ℕ
filled lent (refused n k off) = lent
filled lent (accepted ss) =
    pick (ltb (length lent / statement_row) (row_count ss)) lent (things_rows (things ss) ++ drop (statement_row * row_count ss) lent)

-- .. of a file
unfoldable pub statement_rows : List ℕ → List ℕ → List ℕ
statement_rows f lent = filled lent (judge_file f)

-- ---- writing; the answer and the output of a draft are those of document 01 (paper, Writing)

-- the file of accepted statements; a refusal names the row, from 1, and its word
unfoldable pub draft_of : Judged → Draft
draft_of (refused n k off) = refusal n (suc k) off
draft_of (accepted ss) = drafted (canon ss)

-- what rows are judged to be
unfoldable pub judge_rows : List ℕ → Judged
judge_rows rows = judge row_spots (testeds (things_in rows))

-- of lent rows
unfoldable pub statement_draft : List ℕ → Draft
statement_draft rows = draft_of (judge_rows rows)

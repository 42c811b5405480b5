-- What a call's answer says together with the bytes it leaves. Document 01, "What the library handles", "Numbers returned". Assumes nothing.
use Rattle.std.specs.Prelude.{ℕ, ◌*◌, ◌/◌, ◌≤◌, ◌≡◌, List, length, take, Some}
use Rattle.sheet.specs.declared.Sheet.{Sheet}
use Rattle.sheet.specs.Sheets.{sheet_of}
use Rattle.paper.specs.Batch.{Batch, Header, things}
use Rattle.paper.specs.Rows.{row_size, rows_in, things_in}
use Rattle.paper.specs.Reading.{ReadAnswer, accepted_as, row_count, read_answer, rows_after}
use Rattle.paper.specs.Writing.{draft, written_in, output_after}
use Rattle.roundtrip.specs.whole.Carries.{head_read, past_warnings}

-- lent rows, their texts in lent bytes, hold the batch b
abbrev pub Hold : List ℕ → List ℕ → Batch → Type 0
Hold rows texts b = things b ≡ things_in texts (rows_in rows)

-- Reading the file f accepts it as the batch b with the header h and w warnings: the answer a says so, and the rows at the front of the
-- bytes that are left hold b, their texts in the file.
pub record Accepts (f : List ℕ) (a : ReadAnswer) (left : List ℕ) (h : Header) (b : Batch) (w : ℕ) : Type 0 where
  pub answer : a ≡ accepted_as h (row_count b) w
  pub holds : Hold (take (row_size * row_count b) left) f b

-- what the contract of reading says of the sheet, the day, the file and the lent bytes
abbrev pub ReadsAs : ℕ → ℕ → List ℕ → List ℕ → Header → Batch → ℕ → Type 0
ReadsAs sheet today f lent h b w = Accepts f (read_answer sheet today f lent) (rows_after sheet today f lent) h b w

-- Writing puts the file s into the lent output: the answer says so, and s stands in front of the old bytes.
pub record WritesAs (sheet today : ℕ) (h : Header) (rows texts out s : List ℕ) : Type 0 where
  pub answer : written_in (length out) (draft sheet today h rows texts) ≡ record { number = 0; row = 0; field = 0; bytes = length s }
  pub stands : take (length s) (output_after out (draft sheet today h rows texts)) ≡ s

-- Rows were written on a sheet and a day, and the file f was read on the same into lent bytes, with the answer a and what is left in them: the
-- rows hold a batch, and with room for it f is accepted as that batch with the header (on C, with none), and with no warning but of days that
-- are past.
pub record ComesBack (sheet today : ℕ) (h : Header) (rows texts f lent : List ℕ) (a : ReadAnswer) (left : List ℕ) : Type 0 where
  pub sheet-of : Sheet
  pub named : sheet_of sheet ≡ Some sheet-of
  pub batch : Batch
  pub held : Hold rows texts batch
  pub back : row_count batch ≤ length lent / row_size → Accepts f a left (head_read sheet-of h) batch (past_warnings sheet-of today batch)

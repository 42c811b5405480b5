-- Which numbers a refusal of statements may have, and where it may point: of a field, of a file and of rows. Assumes nothing.
use mathlib.Core.Path.{◌≡◌}
use mathlib.Core.List.{List, [], ◌∷◌}
use Prim.Native.Nat.{ℕ, zero, suc, ◌+◌, ◌*◌, ◌≤◌, ◌/◌}
use native.Mathlib.Nat.{mul-div-le}
use native.Mathlib.Omega.{arith}
use lib.ListN.{length, take, drop, length-drop}
use lib.Seq.{length-take-le}
use Rattle.base.proofs.Cases.{either}
use Rattle.base.proofs.Seek.{starts-long}
use Rattle.paper.specs.Bytes.{null}
use Rattle.gpc.specs.Parts.{pieces_on, pieces}
use Rattle.gpc.specs.Records.{Thing, a_head, a_movement, strange, crlf, record_size, read_record, read_records, records_in}
use Rattle.gpc.specs.Statements.{record_spots, row_spots, refused}
use Rattle.gpc.specs.StatementRows.{tested, testeds, things_in}
use Rattle.gpc.specs.Answers.{judge_file, judge_rows}
use Rattle.gpcexact.proofs.Fields.{only-more, head-only, movement-only, head-tests, movement-tests}
use Rattle.gpcexact.proofs.Places.{Whole, Fits, a-head, a-movement, no-record, AllFit, named-refused, judge-named}

-- ---- a field: 51, at the first byte of one of a head's or a movement's fields; in a row, at its word

-- ---- a file

-- of that size and so many records: the place lies in it or at its end, in one of them or behind the last
abbrev Inside : ℕ → ℕ → ℕ → ℕ → Type 0
Inside size records k off = (k ≤ records) × (record_size * k + off ≤ size)

module _ (size records : ℕ) where
  abbrev At : ℕ → ℕ → Type 0
  At = Inside size records

  -- bytes that stand behind k records
  record-fits : (k : ℕ) (s : List ℕ) → k ≤ records → 130 * k + length s ≤ size → Fits At 104 k (read_record s)
  unfolding read_record
  record-fits k s few h =
      let here : At k 0 = (few, omega arith) in
      either (Fits At 104 k) _
      (λ ends.
      let long = starts-long crlf (drop 128 s) ends in
      let whole : Whole At 104 k = λ off g. (few, omega (arith, length-drop 128 s)) in
      either (Fits At 104 k) _
      (λ _. a-head whole (head-only s))
      (λ _. either (Fits At 104 k) _ (λ _. a-movement whole (only-more (omega arith) (movement-only s))) (λ _. no-record here)))
      (λ _. no-record here)

  -- c whole records, and what is left over, behind k others
  records-fit : (c k : ℕ) (s : List ℕ) → 130 * c ≤ length s → 130 * k + length s ≤ size → k + length (read_records (pieces_on 130 c s)) ≤ records
      → AllFit At 104 k (read_records (pieces_on 130 c s))
  unfolding pieces_on read_records
  records-fit zero k s l h few =
      either (λ ps. k + length (read_records ps) ≤ records → AllFit At 104 k (read_records ps)) (null s)
      (λ _ _. tt)
      (λ _ few. (record-fits k s (omega arith) h, tt)) few
  records-fit (suc c) k s l h few =
      let t = length-take-le 130 s (omega arith) in
      let d = length-drop 130 s in
      (record-fits k (take 130 s) (omega arith) (omega arith), records-fit c (suc k) (drop 130 s) (omega arith) (omega arith) (omega arith))

module _ (f : List ℕ) (n k off : ℕ) (e : judge_file f ≡ refused n k off) where
  file-all : (50 ≤ n) × (n ≤ 53) × Inside (length f) (length (records_in f)) k off
  unfolding judge_file records_in pieces
  file-all =
      let here : ℕ → ℕ → Type 0 = Inside (length f) (length (records_in f)) in
      named-refused here 104
      (rw e at
      (judge-named here 104 record_spots (omega arith) (omega arith) (omega arith) (records_in f) (omega arith)
      (records-fit (length f) (length (records_in f)) (length f / 130) 0 f (mul-div-le (length f) 130) (omega arith) (omega arith))))

  -- a refusal of a file is one of 50 to 53,
  pub file-named : (50 ≤ n) × (n ≤ 53)
  file-named = (file-all.0, file-all.1)

  -- at one of its records or behind the last,
  pub file-record : k ≤ length (records_in f)
  file-record = file-all.2.0

  -- at a byte of the file or at its end.
  pub file-placed : record_size * k + off ≤ length f
  file-placed = file-all.2.1

-- ---- rows

-- the place is one of the eight numbers of one of so many rows, or of the row that is missing behind them
abbrev Word : ℕ → ℕ → ℕ → Type 0
Word rows k off = (k ≤ rows) × (off ≤ 7)

module _ (rows : ℕ) where
  tested-fits : (k : ℕ) (t : Thing) → k ≤ rows → Fits (Word rows) 7 k (tested t)
  unfolding tested
  tested-fits k (a_head h) few = a-head (λ off g. (few, g)) (only-more (omega arith) (head-tests h))
  tested-fits k (a_movement m) few = a-movement (λ off g. (few, g)) (movement-tests m)
  tested-fits k strange few = no-record (omega arith)

  testeds-fit : (k : ℕ) (ts : List Thing) → k + length ts ≤ rows → AllFit (Word rows) 7 k (testeds ts)
  unfolding testeds
  testeds-fit k [] few = tt
  testeds-fit k (t ∷ ts) few = (tested-fits k t (omega arith), testeds-fit (suc k) ts (omega arith))

module _ (rows : List ℕ) (n k off : ℕ) (e : judge_rows rows ≡ refused n k off) where
  rows_all : (50 ≤ n) × (n ≤ 53) × Word (length (things_in rows)) k off
  unfolding judge_rows
  rows_all =
      let ts : List Thing = things_in rows in
      named-refused (Word (length ts)) 7
      (rw e at
      (judge-named (Word (length ts)) 7 row_spots (omega arith) (omega arith) (omega arith) (testeds ts) (omega arith) (testeds-fit (length ts) 0 ts (omega arith))))

  -- a refusal of rows is one of 50 to 53, at one of the eight numbers of a row,
  pub rows_named : (50 ≤ n) × (n ≤ 53) × (off ≤ 7)
  rows_named = (rows_all.0, rows_all.1, rows_all.2.1)

  -- of one of the rows or of the one that is missing behind them.
  pub rows_row : k ≤ length (things_in rows)
  rows_row = rows_all.2.0

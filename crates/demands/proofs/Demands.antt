-- The three demands on the library, on one page. The definitions are those of document 01 (crate paper) which the contracts of the calls
-- name: `read_answer` and `rows_after` of abo_read, `draft`, `written_in` and `output_after` of abo_write, `explanation` of abo_explain (crate explain). Words
-- has them all; the functions that make calls are in ../src/lib.rt. Assumes nothing.
use mathlib.Core.Path.{◌≡◌}
use mathlib.Core.Bool.{true}
use mathlib.Core.List.{List}
use mathlib.Core.Logic.{◌↔◌}
use Prim.Native.Nat.{ℕ, ◌/◌, ◌^◌, ◌≤◌, ◌<◌}
pub mod Words
use Words.*
use Rattle.abo.proofs.abo_read.Statement as read-contract
use Rattle.abo.proofs.abo_read.Met as read-call
use Rattle.abo.proofs.abo_write.Statement as write-contract
use Rattle.abo.proofs.abo_write.Met as write-call
use Rattle.tell.proofs.abo_explain.Statement as explain-contract
use Rattle.tell.proofs.abo_explain.Met as explain-call
use Rattle.abo.proofs.abo_line.Statement as line-contract
use Rattle.abo.proofs.abo_line.Met as line-call
use Rattle.demands.proofs.read_twice.Statement as read-twice-contract
use Rattle.demands.proofs.read_twice.Met as read-twice-call
use Rattle.demands.proofs.write_twice.Statement as write-twice-contract
use Rattle.demands.proofs.write_twice.Met as write-twice-call
use Rattle.demands.proofs.explain_twice.Statement as explain-twice-contract
use Rattle.demands.proofs.explain_twice.Met as explain-twice-call
use Rattle.demands.proofs.line_twice.Statement as line-twice-contract
use Rattle.demands.proofs.line_twice.Met as line-twice-call
use Rattle.demands.proofs.write_and_read.Statement as write-and-read-contract
use Rattle.demands.proofs.write_and_read.Met as write-and-read-call
use Rattle.exact.proofs.Main as exact
use Rattle.reader.proofs.shown.Main as shown
use Rattle.outcomes.proofs.Reading as reading
use Rattle.outcomes.proofs.Written as written
use Rattle.outcomes.proofs.Kept as kept
use Rattle.outcomes.proofs.numbers.Reading as read-numbers
use Rattle.outcomes.proofs.numbers.Writing as write-numbers

-- ---- Demand 1: every call meets its contract for every input, made twice it answers alike, and a refusal changes nothing that was lent

pub abo-read : {M : Type 1} → read-contract.statement M
abo-read = read-call.met

pub abo-write : {M : Type 1} → write-contract.statement M
abo-write = write-call.met

pub abo-explain : {M : Type 1} → explain-contract.statement M
abo-explain = explain-call.met

pub abo-line : {M : Type 1} → line-contract.statement M
abo-line = line-call.met

-- each call made twice on equal bytes: equal answers, and equal bytes left in what was lent
pub read_twice : {M : Type 1} → read-twice-contract.statement M
read_twice = read-twice-call.met

pub write-twice : {M : Type 1} → write-twice-contract.statement M
write-twice = write-twice-call.met

pub explain-twice : {M : Type 1} → explain-twice-contract.statement M
explain-twice = explain-twice-call.met

pub line-twice : {M : Type 1} → line-twice-contract.statement M
line-twice = line-twice-call.met

pub reading-refused : (sheet today : ℕ) (f lent : List ℕ) → ((read_answer sheet today f lent).number ≡ 0 → ⊥) → rows_after sheet today f lent ≡ lent
reading-refused = kept.rows-kept

-- writing and explaining: d is the draft of the one or of the other
pub output-refused : (d : Draft) (out : List ℕ) → ((written_in (length out) d).number ≡ 0 → ⊥) → output_after out d ≡ out
output-refused = kept.output-kept

-- what reading refuses in a file, abo_line shows: the refusal's byte lies in the line of its number
pub refusal-shown : (sheet today : ℕ) (f lent : List ℕ) → Judged (read_answer sheet today f lent).number
    → Holds (line_answer (read_answer sheet today f lent).line f) (read_answer sheet today f lent).byte
refusal-shown = shown.read-shown

-- ---- Demands 2 and 3, every number: an answer is given exactly if its case holds, whatever the sheet's number and the day

pub reading-gives : (sheet today : ℕ) (f lent : List ℕ) (a : ReadAnswer) → read_answer sheet today f lent ≡ a ↔ ReadGives sheet today f (length lent / row_size) a
reading-gives = read-numbers.reads

pub writing-gives : (sheet today : ℕ) (h : Header) (rows texts out : List ℕ) (a : WriteAnswer)
    → written_in (length out) (draft sheet today h rows texts) ≡ a ↔ WriteGives sheet today h rows texts (length out) a
writing-gives sheet today h rows texts out = write-numbers.writes sheet today h rows texts (length out)

-- ---- what follows speaks of a known sheet and a real day

module _ (sheet : ℕ) (sh : Sheet) (named : sheet_of sheet ≡ Some sh) (today : ℕ) (day : real_day today ≡ true) where
  -- ---- Demand 2, reading

  -- With room for its rows a file is accepted as a batch, with a header and warnings, exactly if it breaks no rule and spells these,
  pub accepted : (f lent : List ℕ) (h : Header) (b : Batch) (w : ℕ) → row_count b ≤ length lent / row_size → length f < 2 ^ 64
      → ReadsAs sheet today f lent h b w ↔ Spells sh today f h b w
  accepted = reading.reads sheet sh named today day

  -- which are the only ones that it spells.
  pub one_batch : (f : List ℕ) (h h' : Header) (b b' : Batch) (w w' : ℕ)
      → Spells sh today f h b w → Spells sh today f h' b' w' → (h ≡ h') × (b ≡ b') × (w ≡ w')
  one_batch = exact.unambiguous sh today

  -- It is refused with a number, a line and a byte exactly if a rule is broken there and none before it in the testing order.
  pub refused : (f lent : List ℕ) (n l p : ℕ) → read_answer sheet today f lent ≡ refused_at n l p ↔ FirstFault sh today f (Refused n l p)
  refused = reading.refuses sheet sh named today day

  module _ (h : Header) (rows texts : List ℕ) where
    -- ---- Demand 2, writing

    -- What is written, where there is room, is the canonical file of the batch that the rows hold,
    pub canonical : (out s : List ℕ) → length s ≤ length out → WritesAs sheet today h rows texts out s → (b : Batch) × Hold rows texts b × (s ≡ canon sh h b)
    canonical = written.canonical sheet sh named today day h rows texts

    -- and it is one: rows that hold the same batch are written alike, wherever they and their texts lie.
    pub one-file : (rows' texts' : List ℕ) (b : Batch) → Hold rows texts b → Hold rows' texts' b → draft sheet today h rows texts ≡ draft sheet today h rows' texts'
    one-file = written.one-file sheet sh named today day h rows texts

    -- ---- Demand 3

    -- Writing is refused exactly if no file at all, however spelled, is read as this batch with this header (on C, as this batch),
    pub refused-exactly : Refuses (draft sheet today h rows texts)
        ↔ ((b : Batch) (f : List ℕ) (w : ℕ) → Hold rows texts b → Spells sh today f (head_read sh h) b w → ⊥)
    refused-exactly = written.refused-exactly sheet sh named today day h rows texts

    -- with 20 exactly if row and field are the first that break a rule of "The batch" (the header is row 0),
    pub improper : (row field : ℕ) → draft sheet today h rows texts ≡ refusal 20 row field ↔ FirstWrong (proper_rules sh h (things_in texts (rows_in rows))) row field
    improper = write-numbers.draft-improper sheet today h rows texts sh named day

    -- with 21 exactly if no such rule is broken, and row and field are the first that the sheet does not carry on that day,
    pub uncarried : (row field : ℕ) → draft sheet today h rows texts ≡ refusal 21 row field
        ↔ AllMet (proper_rules sh h (things_in texts (rows_in rows))) × FirstWrong (carried_rules sh today h (things_in texts (rows_in rows))) row field
    uncarried = write-numbers.draft-uncarried sheet today h rows texts sh named day

    -- and with no other number.
    pub refused-by : (n row field : ℕ) → draft sheet today h rows texts ≡ refusal n row field → (20 ≤ n) × (n ≤ 21)
    refused-by = written.refused-by sheet sh named today day h rows texts

    -- Otherwise a file is written that is accepted that day,
    pub otherwise-written : (Refuses (draft sheet today h rows texts) → ⊥)
        → (b : Batch) × Hold rows texts b × ((out : List ℕ) → length (canon sh h b) ≤ length out → WritesAs sheet today h rows texts out (canon sh h b))
        × Spells sh today (canon sh h b) (head_read sh h) b (past_warnings sh today b)
    otherwise-written = written.otherwise-written sheet sh named today day h rows texts

    -- and with room for its rows it is read back as exactly the batch and the header (on C, the batch).
    pub read_back : (Refuses (draft sheet today h rows texts) → ⊥)
        → (b : Batch) × Hold rows texts b
        × ((lent : List ℕ) → row_count b ≤ length lent / row_size → length (canon sh h b) < 2 ^ 64
        → ReadsAs sheet today (canon sh h b) lent (head_read sh h) b (past_warnings sh today b))
    read_back = written.read_back sheet sh named today day h rows texts

-- .. by the two calls, one after the other, whatever sheet and day: what abo_write writes, abo_read reads back.
pub write-and-read : {M : Type 1} → write-and-read-contract.statement M
write-and-read = write-and-read-call.met

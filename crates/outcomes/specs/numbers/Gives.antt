-- Which answer reading and writing give, and exactly when: a case for each number, whatever the sheet's number and the day. Document 01,
-- "Numbers returned". Assumes nothing.
use Rattle.std.specs.Prelude.{ℕ, ◌≤◌, ◌<◌, ◌≡◌, true, false, List, length, Some, None}
use Rattle.sheet.specs.declared.Sheet.{Sheet}
use Rattle.sheet.specs.Sheets.{sheet_of}
use Rattle.paper.specs.Days.{real_day}
use Rattle.paper.specs.Batch.{Batch, Header, Thing}
use Rattle.paper.specs.Spells.{Spells}
use Rattle.paper.specs.Judge.{Refused}
use Rattle.paper.specs.FirstFault.{FirstFault}
use Rattle.paper.specs.Rows.{rows_in, things_in}
use Rattle.paper.specs.Reading.{ReadAnswer, refused_at, needs, accepted_as, row_count}
use Rattle.paper.specs.FirstWrong.{AllMet, FirstWrong, proper_rules, carried_rules}
use Rattle.paper.specs.Canonical.{canon}
use Rattle.paper.specs.Writing.{WriteAnswer}
use Rattle.exact.specs.named.Numbers.{Judged}
use Rattle.outcomes.specs.Outcomes.{Hold}

-- ---- sheet and day

-- the number names no sheet
abbrev pub NoSheet : ℕ → Type 0
NoSheet sheet = sheet_of sheet ≡ None

-- it names one, and today is no real day
abbrev pub NoDay : ℕ → ℕ → Type 0
NoDay sheet today = (sh : Sheet) × (sheet_of sheet ≡ Some sh) × (real_day today ≡ false)

-- it names sh, and today is a real day
abbrev pub Asked : ℕ → ℕ → Sheet → Type 0
Asked sheet today sh = (sheet_of sheet ≡ Some sh) × (real_day today ≡ true)

-- ---- reading the file f

module _ (sheet today : ℕ) (f : List ℕ) where
  -- the file spells a batch of n rows, with the header h and w warnings
  abbrev pub Spelled : Header → ℕ → ℕ → Type 0
  Spelled h n w = (sh : Sheet) × (b : Batch) × Asked sheet today sh × Spells sh today f h b w × (n ≡ row_count b)

  -- room rows are lent
  module _ (room : ℕ) where
    pub data ReadGives : ReadAnswer → Type 0 where
      -- 1 and 2
      no_sheet : NoSheet sheet → ReadGives (refused_at 1 0 0)
      no_day : NoDay sheet today → ReadGives (refused_at 2 0 0)
      -- 3 to 15: the file's first fault has this number, line and byte
      fault : {sh : Sheet} {n l p : ℕ} → Asked sheet today sh → Judged n → FirstFault sh today f (Refused n l p) → ReadGives (refused_at n l p)
      -- 16: fewer rows are lent than the batch has, which are needed
      no_room : {h : Header} {n w : ℕ} → Spelled h n w → room < n → ReadGives (needs n)
      -- 0: there is room for the batch
      accepted : {h : Header} {n w : ℕ} → Spelled h n w → n ≤ room → ReadGives (accepted_as h n w)

-- ---- writing what lent rows say, their texts in lent bytes, with the header h

-- 1, 2, 20 and 21
abbrev pub refuses : ℕ → ℕ → ℕ → WriteAnswer
refuses n row field = record { number = n; row = row; field = field; bytes = 0 }

-- 16 and 0: the bytes needed or written
abbrev pub counts : ℕ → ℕ → WriteAnswer
counts n bytes = record { number = n; row = 0; field = 0; bytes = bytes }

-- what the rows say, in order
abbrev pub said_by : List ℕ → List ℕ → List Thing
said_by rows texts = things_in texts (rows_in rows)

module _ (sheet today : ℕ) (h : Header) (rows texts : List ℕ) where
  -- no rule of 20 and of 21 is broken, and the canonical file of the batch that the rows hold has n bytes
  abbrev pub FileOf : ℕ → Type 0
  FileOf n =
      (sh : Sheet)
      × (b : Batch)
      × Asked sheet today sh
      × AllMet (proper_rules sh h (said_by rows texts))
      × AllMet (carried_rules sh today h (said_by rows texts))
      × Hold rows texts b
      × (n ≡ length (canon sh h b))

  -- room bytes are lent
  module _ (room : ℕ) where
    pub data WriteGives : WriteAnswer → Type 0 where
      -- 1 and 2
      no_sheet : NoSheet sheet → WriteGives (refuses 1 0 0)
      no_day : NoDay sheet today → WriteGives (refuses 2 0 0)
      -- 20: row and field are the first that break a rule of "The batch"
      improper : {sh : Sheet} {row field : ℕ} → Asked sheet today sh → FirstWrong (proper_rules sh h (said_by rows texts)) row field
          → WriteGives (refuses 20 row field)
      -- 21: no such rule is broken; row and field are the first that the sheet does not carry on that day
      uncarried : {sh : Sheet} {row field : ℕ} → Asked sheet today sh → AllMet (proper_rules sh h (said_by rows texts))
          → FirstWrong (carried_rules sh today h (said_by rows texts)) row field → WriteGives (refuses 21 row field)
      -- 16: fewer bytes are lent than the file has, which are needed
      no_room : {n : ℕ} → FileOf n → room < n → WriteGives (counts 16 n)
      -- 0: there is room for the file
      written : {n : ℕ} → FileOf n → n ≤ room → WriteGives (counts 0 n)

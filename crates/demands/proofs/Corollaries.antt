-- What users quote of the demands. Assumes nothing.
use Rattle.std.proofs.Common.{Some}
use mathlib.Core.Path.{◌≡◌}
use mathlib.Core.Bool.{Bool, true}
use mathlib.Core.List.{List}
use mathlib.Core.Logic.{◌↔◌}
use Prim.Native.Nat.{ℕ, suc, ◌*◌, ◌/◌, ◌%◌, ◌^◌, ◌≤◌, ◌<◌}
use lib.ListN.{length, take}
use Rattle.sheet.specs.declared.Sheet.{Sheet}
use Rattle.sheet.specs.Sheets.{sheet_c, sheet_p, sheet_of}
use Rattle.sheet.proofs.Laws as sheets
use Rattle.paper.specs.Days.{real_day, month_ahead, collect_allowed}
use Rattle.paper.specs.Accounts.{rest, account_ok}
use Rattle.paper.specs.Batch.{Batch, Header, no_header, things}
use Rattle.paper.specs.Lines.{lines_of}
use Rattle.paper.specs.Spells.{Spells, dues}
use Rattle.paper.specs.Judge.{Refused, Accepted, judge}
use Rattle.paper.specs.FirstFault.{FirstFault}
use Rattle.paper.specs.Rows.{row_size, rows_in}
use Rattle.paper.specs.Reading.{read_answer, rows_after}
use Rattle.paper.specs.Canonical.{canon}
use Rattle.paper.specs.Writing.{drafted, draft_of, draft, written_in}
use Rattle.paper.specs.Rewriting.{rewritten, rewriting}
use Rattle.calendar.specs.Ahead.{Ahead}
use Rattle.account.specs.Decree.{decree, weighted, decreed, powers}
use Rattle.account.proofs.Decree as accounts
use Rattle.calendar.proofs.Month as months
use Rattle.exact.proofs.Main as exact
use Rattle.exact.proofs.faults.Main as faults
use Rattle.exact.proofs.named.Main as places
use Rattle.roundtrip.specs.whole.Carries.{Carries, head_read, past_warnings, Exactly}
use Rattle.roundtrip.proofs.whole.Main as whole
use Rattle.outcomes.specs.numbers.Gives.{NoSheet, NoDay, Spelled, FileOf}
use Rattle.rowlaws.specs.References.{AllAlike, Unreferred}
use Rattle.outcomes.proofs.References as refers
use Rattle.outcomes.proofs.numbers.Reading as read-numbers
use Rattle.outcomes.proofs.numbers.Writing as write-numbers
use Rattle.bounds.proofs.Input as input
use Rattle.uncut.specs.Severe.{severe}
use Rattle.uncut.proofs.Main as uncut
use Rattle.moving.specs.Marks.{BatchUnmarked, headless}
use Rattle.moving.proofs.Editions as editions

-- ---- 1, 2 and 16, whatever the sheet's number and the day

module _ (sheet today : ℕ) (f lent : List ℕ) where
  -- Reading gives 1 exactly if the number names no sheet,
  pub read-1 : (read_answer sheet today f lent).number ≡ 1 ↔ NoSheet sheet
  read-1 = read-numbers.number-1 sheet today f lent

  -- 2 exactly if it names one and today is no real day,
  pub read-2 : (read_answer sheet today f lent).number ≡ 2 ↔ NoDay sheet today
  read-2 = read-numbers.number-2 sheet today f lent

  -- 16 exactly if the file spells a batch of more rows than are lent,
  pub read-16 : (read_answer sheet today f lent).number ≡ 16
      ↔ ((h : Header) × (n : ℕ) × (w : ℕ) × Spelled sheet today f h n w × (length lent / row_size < n))
  read-16 = read-numbers.number-16 sheet today f lent

  -- and then its rows are needed.
  pub read-needed : (h : Header) (n w : ℕ) → Spelled sheet today f h n w → length lent / row_size < n → (read_answer sheet today f lent).needed ≡ n
  read-needed = read-numbers.needed-16 sheet today f lent

module _ (sheet today : ℕ) (h : Header) (rows texts : List ℕ) (room : ℕ) where
  -- Writing gives 1 and 2 exactly then,
  pub write-1 : (written_in room (draft sheet today h rows texts)).number ≡ 1 ↔ NoSheet sheet
  write-1 = write-numbers.number-1 sheet today h rows texts room

  pub write-2 : (written_in room (draft sheet today h rows texts)).number ≡ 2 ↔ NoDay sheet today
  write-2 = write-numbers.number-2 sheet today h rows texts room

  -- 16 exactly if there is a file to be written, of more bytes than are lent,
  pub write-16 : (written_in room (draft sheet today h rows texts)).number ≡ 16 ↔ ((n : ℕ) × FileOf sheet today h rows texts n × (room < n))
  write-16 = write-numbers.number-16 sheet today h rows texts room

  -- and then its bytes are needed.
  pub write-needed : (n : ℕ) → FileOf sheet today h rows texts n → room < n → (written_in room (draft sheet today h rows texts)).bytes ≡ n
  write-needed = write-numbers.needed-16 sheet today h rows texts room

-- The rewriting program reads 8,193 bytes at most, and what it does not read cannot matter.
pub input-read : (s : List ℕ) → rewriting (take 8193 s) ≡ rewriting s
input-read = input.first-bytes

-- ---- the order book's references, document 02, W-206

module _ (sheet today : ℕ) where
  -- Rows that differ in references alone, all in range, are written alike: the same file, or the same refusal at the same row and field.
  pub references : (h : Header) (rows rows' texts : List ℕ) → AllAlike (rows_in rows) (rows_in rows')
      → draft sheet today h rows texts ≡ draft sheet today h rows' texts
  references = refers.references sheet today

  -- Behind an accepted reading every item's reference is 0.
  pub read-reference : (f lent : List ℕ) → length f < 2 ^ 64 → (read_answer sheet today f lent).number ≡ 0
      → Unreferred (rows_in (take (row_size * (read_answer sheet today f lent).rows) (rows_after sheet today f lent)))
  read-reference = refers.read-reference sheet today

-- ---- from P to C, document 02, W-201

module _ (today : ℕ) where
  module _ (f : List ℕ) (h : Header) (b : Batch) (w : ℕ) (accepted : judge sheet_p today f ≡ Accepted h b w) where
    -- Whatever P accepts C accepts that day,
    pub moves-accepted : (c : Batch) × (v : ℕ) × (judge sheet_c today f ≡ Accepted no_header c v)
    moves-accepted = editions.moves-accepted today f h b w accepted

    -- as the same batch exactly if no part of it holds ` NP:`,
    pub moves : ((g : Header) × (v : ℕ) × (judge sheet_c today f ≡ Accepted g b v)) ↔ BatchUnmarked b
    moves = editions.moves today f h b w accepted

    -- and then with as many warnings.
    pub moves-alike : BatchUnmarked b → judge sheet_c today f ≡ Accepted no_header b w
    moves-alike = editions.moves-alike today f h b w accepted

    -- So the request's own sentence holds: a file that both accept on the same day, with no ` NP:` in any text, is read as the same batch.
    pub moves-same : (g : Header) (c : Batch) (v : ℕ) → judge sheet_c today f ≡ Accepted g c v → BatchUnmarked b → c ≡ b
    moves-same = editions.moves-same today f h b w accepted

    -- Then abo_read gives the same answer but for the header, which C has not, and leaves the same rows.
    module _ (plain : BatchUnmarked b) (real : real_day today ≡ true) (lent : List ℕ) where
      pub moves-answer : read_answer 3 today f lent ≡ headless (read_answer 5 today f lent)
      moves-answer = editions.moves-answer today f h b w accepted plain real lent

      pub moves-rows : rows_after 3 today f lent ≡ rows_after 5 today f lent
      moves-rows = editions.moves-rows today f h b w accepted plain real lent

  -- What P carries with no ` NP:` in any part C carries, with any header.
  pub moves-carried : (h g : Header) (b : Batch) → BatchUnmarked b → Carries sheet_p today h b → Carries sheet_c today g b
  moves-carried = editions.moves-carried today

-- ---- for a known sheet and a real day

module _ (sheet : ℕ) (sh : Sheet) (named : sheet_of sheet ≡ Some sh) (today : ℕ) where
  module _ (f : List ℕ) (h : Header) (b : Batch) (w : ℕ) (s : Spells sh today f h b w) where
    abbrev judged : judge sh today f ≡ Accepted h b w
    judged = (exact.exact sh today f h b w).1 s

    -- What was accepted can be rewritten,
    pub rewritable : draft_of sh today h (things b) ≡ drafted (canon sh h b)
    rewritable = whole.rewrites sh (sheets.sane sheet sh named) today f h b w judged

    -- the rewritten file is read as the same header and batch,
    pub same-batch : Spells sh today (canon sh h b) h b (past_warnings sh today b)
    same-batch =
        (exact.exact sh today (canon sh h b) h b (past_warnings sh today b)).0
        (whole.again sh (sheets.sane sheet sh named) today f h b w judged)

    -- with no warning that the file did not give,
    pub no-new-warning : past_warnings sh today b ≤ w
    no-new-warning = whole.sound-warnings sh (sheets.sane sheet sh named) today f h b w judged

    -- and rewriting it changes nothing.
    pub idempotent : rewritten sh (judge sh today (rewritten sh (judge sh today f))) ≡ rewritten sh (judge sh today f)
    idempotent = whole.idempotent sh (sheets.sane sheet sh named) today f h b w judged

    -- K, S and P: every line says exactly what is due, a group's line the sum of its items as its total.
    pub exact-totals : sh.strict ≡ true → Exactly sh today (lines_of 0 f) (dues h b)
    exact-totals strict = whole.strict-totals sh strict today f h b w judged

  -- What is accepted without a warning was not cut, and its totals are exact: the sheet that refuses both accepts it as the same batch.
  pub nothing-cut : (f : List ℕ) (h : Header) (b : Batch) → judge sh today f ≡ Accepted h b 0 → judge (severe sh) today f ≡ Accepted h b 0
  nothing-cut = uncut.uncut sh today

  -- Whatever that sheet accepts, this one accepts alike.
  pub severely : (f : List ℕ) (h : Header) (b : Batch) (w : ℕ) → judge (severe sh) today f ≡ Accepted h b w → judge sh today f ≡ Accepted h b w
  severely = uncut.severely sh today

  -- Different batches that are written have different files.
  pub one-to-one : (h h' : Header) (b b' : Batch) → Carries sh today h b → Carries sh today h' b' → canon sh h b ≡ canon sh h' b'
      → (head_read sh h ≡ head_read sh h') × (b ≡ b')
  one-to-one = whole.same-batch sh (sheets.sane sheet sh named) today

  -- A file is refused exactly if it spells nothing,
  pub spells_nothing : (f : List ℕ) → ((n : ℕ) × (l : ℕ) × (p : ℕ) × (judge sh today f ≡ Refused n l p))
      ↔ ((h : Header) (b : Batch) (w : ℕ) → Spells sh today f h b w → ⊥)
  spells_nothing = faults.spells_nothing sh today

  -- has one first fault,
  pub one-fault : (f : List ℕ) (n n' l l' p p' : ℕ)
      → FirstFault sh today f (Refused n l p) → FirstFault sh today f (Refused n' l' p') → (n ≡ n') × (l ≡ l') × (p ≡ p')
  one-fault = faults.one-fault sh today

  -- and a refusal has one of the numbers 3 to 15, and points into the file, at one of its lines or behind the last.
  pub refused-inside : (f : List ℕ) (n l p : ℕ) → judge sh today f ≡ Refused n l p
      → (3 ≤ n) × (n ≤ 15) × (1 ≤ l) × (l ≤ suc (length (lines_of 0 f))) × (p ≤ length f)
  refused-inside f n l p e =
      let (least, most) = places.judge-named sh today f n l p e in
      let (line, byte) = places.judge-placed sh today f n l p e in
      (least, most, line, places.judge-lined sh today f n l p e, byte)

-- ---- the days of collections

module _ (today : ℕ) (real : real_day today ≡ true) where
  -- One month ahead of a day before December 2099 is a real day of the next month: today's day number, or the month's last where that is below it.
  pub a-month-ahead : today < 20991201 → (real_day (month_ahead today) ≡ true) × Ahead today (month_ahead today)
  a-month-ahead = months.month-ahead today real

  -- From then on a collection may be due on every real day that is left: from the own bank today too,
  pub own-bank-2099 : (d : ℕ) → real_day d ≡ true → 20991201 ≤ today → today ≤ d → collect_allowed true today d ≡ true
  own-bank-2099 d r from = months.own-later today d real r from

  -- from any bank later.
  pub any-bank-2099 : (d : ℕ) → real_day d ≡ true → 20991201 ≤ today → today < d → (own : Bool) → collect_allowed own today d ≡ true
  any-bank-2099 d r from = months.any-later today d real r from

-- ---- the rule of an account's digits

-- The decree's ten weights are the rests by 11 of the first ten powers of 2,
pub decree-powers : decree ≡ powers 10 0
decree-powers = accounts.decree-powers

-- so that doubling from the left digit gives the rest of the weighted sum, whatever the number,
pub decree-rest : (n : ℕ) → rest 10 n ≡ weighted decree n % 11
decree-rest = accounts.decree-rest

-- and an account keeps the rule exactly if it keeps the decree's.
pub decree-same : (prefix base : ℕ) → account_ok prefix base ≡ decreed prefix base
decree-same = accounts.decree-same

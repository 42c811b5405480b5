-- What writing answers, exactly when, for every sheet's number and every day. Assumes nothing.
use Rattle.std.proofs.Common.{Option, Some, None}
use mathlib.Core.Path.{◌≡◌, refl, ap, ◌∙◌}
use mathlib.Core.Bool.{true}
use mathlib.Core.List.{List}
use mathlib.Core.Logic.{◌↔◌}
use Prim.Native.Nat.{ℕ, ◌≤◌, ◌<◌}
use native.Mathlib.Omega.{arith}
use lib.ListN.{length}
use borrow.Author.Tests.{lt-ltb, le-ltb}
use Rattle.base.proofs.Cases.{by-test, by-lt, pick_true, pick-false}
use Rattle.sheet.specs.declared.Sheet.{Sheet}
use Rattle.sheet.specs.Sheets.{sheet_of}
use Rattle.paper.specs.Days.{real_day}
use Rattle.paper.specs.Batch.{Batch, Header, Thing, batch_of}
use Rattle.paper.specs.FirstWrong.{AllMet, FirstWrong, proper_rules, carried_rules}
use Rattle.paper.specs.Canonical.{canon}
use Rattle.paper.specs.Writing.{Draft, drafted, refusal, draft_with, draft, WriteAnswer, written_in}
use Rattle.paper.proofs.Trees.{batch-things}
use Rattle.roundtrip.proofs.whole.Main.{rows_written}
use Rattle.roundtrip.proofs.whole.Drafts.{draft-known}
use Rattle.outcomes.proofs.firstwrong.Verdicts.{by-rules}
use Rattle.outcomes.proofs.firstwrong.Main as firstwrong
use Rattle.outcomes.specs.Outcomes.{Hold}
use Rattle.outcomes.specs.numbers.Gives.{NoSheet, NoDay, refuses, counts, said_by, FileOf, WriteGives, no_sheet, no_day, improper, uncarried, no_room, written}

-- ---- the answer by the draft

by-refusal : (room : ℕ) (d : Draft) (n row field : ℕ) → d ≡ refusal n row field → written_in room d ≡ refuses n row field
unfolding written_in
by-refusal room d n row field e = rw e

by_length : (room : ℕ) (d : Draft) (s : List ℕ) → d ≡ drafted s → room < length s → written_in room d ≡ counts 16 (length s)
unfolding written_in
by_length room d s e l = rw e (pick_true _ _ (lt-ltb room (length s) l))

by-room : (room : ℕ) (d : Draft) (s : List ℕ) → d ≡ drafted s → length s ≤ room → written_in room d ≡ counts 0 (length s)
unfolding written_in
by-room room d s e l = rw e (pick-false _ _ (le-ltb room (length s) l))

module _ (sheet today : ℕ) (h : Header) (rows texts : List ℕ) where
  draft-no-sheet : NoSheet sheet → draft sheet today h rows texts ≡ refusal 1 0 0
  unfolding draft draft_with
  draft-no-sheet e = rw e

  draft-no-day : NoDay sheet today → draft sheet today h rows texts ≡ refusal 2 0 0
  unfolding draft draft_with
  draft-no-day (sh, e, day) = rw e (pick-false _ _ day)

  -- ---- on a known sheet and a real day

  module _ (sh : Sheet) (named : sheet_of sheet ≡ Some sh) (day : real_day today ≡ true) where
    abbrev said : List Thing
    said = said_by rows texts

    -- A draft is refused with 20 exactly if row and field are the first that break a rule of "The batch",
    pub draft-improper : (row field : ℕ) → draft sheet today h rows texts ≡ refusal 20 row field ↔ FirstWrong (proper_rules sh h said) row field
    draft-improper row field = rw (draft-known sheet sh named today day h rows texts) (firstwrong.improper sh today h said row field)

    -- with 21 exactly if none of these is broken, and row and field are the first that the sheet does not carry on that day.
    pub draft-uncarried : (row field : ℕ) → draft sheet today h rows texts ≡ refusal 21 row field
        ↔ AllMet (proper_rules sh h said) × FirstWrong (carried_rules sh today h said) row field
    draft-uncarried row field = rw (draft-known sheet sh named today day h rows texts) (firstwrong.uncarried sh today h said row field)

    -- Where no rule is broken, the rows hold a batch, and its canonical file is drafted.
    module _ (p : AllMet (proper_rules sh h said)) (c : AllMet (carried_rules sh today h said)) where
      draft-said : draft sheet today h rows texts ≡ drafted (canon sh h (batch_of said))
      draft-said = draft-known sheet sh named today day h rows texts ∙ (firstwrong.drafts sh today h said _).1 (p, c, refl)

      draft-batch : (b : Batch) → Hold rows texts b → draft sheet today h rows texts ≡ drafted (canon sh h b)
      draft-batch b held = rw (← held, batch-things b) at draft-said

      draft-held : (b : Batch) × Hold rows texts b
      draft-held = let (b, held, _, _) = rows_written sheet sh named today day h rows texts _ draft-said in (b, held)

-- ---- the answer, with the room

module _ (sheet today : ℕ) (h : Header) (rows texts : List ℕ) (room : ℕ) where
  abbrev answer : WriteAnswer
  answer = written_in room (draft sheet today h rows texts)

  -- ---- a case that holds has its answer

  file-short : (n : ℕ) → FileOf sheet today h rows texts n → room < n → answer ≡ counts 16 n
  file-short n (sh, b, (e, day), p, c, held, size) l =
      rw size (by_length room _ (canon sh h b) (draft-batch sheet today h rows texts sh e day p c b held) (rw size at l))

  file-fits : (n : ℕ) → FileOf sheet today h rows texts n → n ≤ room → answer ≡ counts 0 n
  file-fits n (sh, b, (e, day), p, c, held, size) l =
      rw size (by-room room _ (canon sh h b) (draft-batch sheet today h rows texts sh e day p c b held) (rw size at l))

  gives : (a : WriteAnswer) → WriteGives sheet today h rows texts room a → answer ≡ a
  gives a (no_sheet q) = by-refusal room _ 1 0 0 (draft-no-sheet sheet today h rows texts q)
  gives a (no_day q) = by-refusal room _ 2 0 0 (draft-no-day sheet today h rows texts q)
  gives a (improper {sh = sh} {row = row} {field = field} (e, day) w) =
      by-refusal room _ 20 row field ((draft-improper sheet today h rows texts sh e day row field).1 w)
  gives a (uncarried {sh = sh} {row = row} {field = field} (e, day) p w) =
      by-refusal room _ 21 row field ((draft-uncarried sheet today h rows texts sh e day row field).1 (p, w))
  gives a (no_room {n = n} q l) = file-short n q l
  gives a (written {n = n} q l) = file-fits n q l

  -- ---- the answer has a case

  by-case : {a : WriteAnswer} → WriteGives sheet today h rows texts room a → WriteGives sheet today h rows texts room answer
  by-case {a} q = rw (gives a q) q

  on-sheet : (sh : Sheet) → sheet_of sheet ≡ Some sh → real_day today ≡ true → WriteGives sheet today h rows texts room answer
  on-sheet sh e day =
      by-rules (proper_rules sh h (said_by rows texts)) (λ row field w. by-case (improper (e, day) w))
      (λ p. by-rules (carried_rules sh today h (said_by rows texts)) (λ row field w. by-case (uncarried (e, day) p w))
      (λ c.
      let (b, held) = draft-held sheet today h rows texts sh e day p c in
      let file : FileOf sheet today h rows texts (length (canon sh h b)) = (sh, b, (e, day), p, c, held, refl) in
      by-lt room (length (canon sh h b)) (λ l. by-case (no_room file l)) (λ l. by-case (written file l))))

  given : (k : Option Sheet) → sheet_of sheet ≡ k → WriteGives sheet today h rows texts room answer
  given None e = by-case (no_sheet e)
  given (Some sh) e = by-test (real_day today) (λ day. on-sheet sh e day) (λ day. by-case (no_day (sh, e, day)))

  -- Writing gives an answer exactly if its case holds.
  pub writes : (a : WriteAnswer) → written_in room (draft sheet today h rows texts) ≡ a ↔ WriteGives sheet today h rows texts room a
  writes a = (λ e. rw e at (given (sheet_of sheet) refl), gives a)

  -- ---- by number: no two cases have one

  -- there is a file to be written, of more bytes than are lent
  abbrev NoRoom : Type 0
  NoRoom = (n : ℕ) × FileOf sheet today h rows texts n × (room < n)

  cases : (a : WriteAnswer) → WriteGives sheet today h rows texts room a
      → (a.number ≡ 1 → NoSheet sheet) × (a.number ≡ 2 → NoDay sheet today) × (a.number ≡ 16 → NoRoom)
  cases a (no_sheet q) = (λ e. q, λ e. absurd (omega arith), λ e. absurd (omega arith))
  cases a (no_day q) = (λ e. absurd (omega arith), λ e. q, λ e. absurd (omega arith))
  cases a (improper q w) = (λ e. absurd (omega arith), λ e. absurd (omega arith), λ e. absurd (omega arith))
  cases a (uncarried q p w) = (λ e. absurd (omega arith), λ e. absurd (omega arith), λ e. absurd (omega arith))
  cases a (no_room {n = n} q l) = (λ e. absurd (omega arith), λ e. absurd (omega arith), λ e. (n, q, l))
  cases a (written q l) = (λ e. absurd (omega arith), λ e. absurd (omega arith), λ e. absurd (omega arith))

  -- 1 exactly if the number names no sheet,
  pub number-1 : (written_in room (draft sheet today h rows texts)).number ≡ 1 ↔ NoSheet sheet
  number-1 = ((cases _ (given (sheet_of sheet) refl)).0, λ q. ap (λ (a : WriteAnswer). a.number) (gives _ (no_sheet q)))

  -- 2 exactly if it names one and today is no real day,
  pub number-2 : (written_in room (draft sheet today h rows texts)).number ≡ 2 ↔ NoDay sheet today
  number-2 = ((cases _ (given (sheet_of sheet) refl)).1, λ q. ap (λ (a : WriteAnswer). a.number) (gives _ (no_day q)))

  -- 16 exactly if there is a file to be written, of more bytes than are lent,
  pub number-16 : (written_in room (draft sheet today h rows texts)).number ≡ 16 ↔ NoRoom
  number-16 = ((cases _ (given (sheet_of sheet) refl)).2, λ (n, q, l). ap (λ (a : WriteAnswer). a.number) (file-short n q l))

  -- and then its bytes are needed.
  pub needed-16 : (n : ℕ) → FileOf sheet today h rows texts n → room < n → (written_in room (draft sheet today h rows texts)).bytes ≡ n
  needed-16 n q l = ap (λ (a : WriteAnswer). a.bytes) (file-short n q l)

-- What reading answers, and exactly when, for every sheet's number and every day. Assumes nothing.
use Rattle.std.proofs.Common.{Option, Some, None}
use mathlib.Core.Path.{◌≡◌, refl, ap}
use mathlib.Core.Bool.{true}
use mathlib.Core.List.{List}
use mathlib.Core.Logic.{◌↔◌}
use Prim.Native.Nat.{ℕ, ◌/◌, ◌<◌}
use native.Mathlib.Omega.{arith}
use lib.ListN.{length}
use Rattle.base.proofs.Cases.{by-test, by-lt, pick-false}
use Rattle.sheet.specs.declared.Sheet.{Sheet}
use Rattle.sheet.specs.Sheets.{sheet_of}
use Rattle.paper.specs.Days.{real_day}
use Rattle.paper.specs.Batch.{Header}
use Rattle.paper.specs.Judge.{Answer, Refused, Accepted, judge}
use Rattle.paper.specs.Rows.{row_size}
use Rattle.paper.specs.Reading.{ReadAnswer, refused_at, needs, accepted_as, row_count, read_with, read_answer}
use Rattle.exact.proofs.Main.{exact}
use Rattle.exact.proofs.faults.Main.{refused}
use Rattle.exact.proofs.named.Main.{judge-named}
use Rattle.outcomes.proofs.Reading.{says-refused, says-needs, says-accepted}
use Rattle.outcomes.specs.numbers.Gives.{NoSheet, NoDay, Spelled, ReadGives, no_sheet, no_day, fault, no_room, accepted}

module _ (sheet today : ℕ) (f lent : List ℕ) where
  abbrev room : ℕ
  room = length lent / row_size

  says-no-sheet : NoSheet sheet → read_answer sheet today f lent ≡ refused_at 1 0 0
  unfolding read_answer read_with
  says-no-sheet e = rw e

  says-no-day : NoDay sheet today → read_answer sheet today f lent ≡ refused_at 2 0 0
  unfolding read_answer read_with
  says-no-day (sh, e, day) = rw e (pick-false _ _ day)

  -- ---- a case that holds has its answer

  gives : (a : ReadAnswer) → ReadGives sheet today f room a → read_answer sheet today f lent ≡ a
  gives a (no_sheet e) = says-no-sheet e
  gives a (no_day e) = says-no-day e
  gives a (fault {sh = sh} {n = n} {l = l} {p = p} (e, day) i o) = says-refused sheet sh e today day f lent n l p ((refused sh today f n l p).1 o)
  gives a (no_room {h = h} {n = n} {w = w} (sh, b, (e, day), s, size) l) =
      rw size (says-needs sheet sh e today day f lent h b w ((exact sh today f h b w).1 s) (rw size at l))
  gives a (accepted {h = h} {n = n} {w = w} (sh, b, (e, day), s, size) l) =
      rw size (says-accepted sheet sh e today day f lent h b w ((exact sh today f h b w).1 s) (rw size at l))

  -- ---- the answer has a case

  by-case : {a : ReadAnswer} → ReadGives sheet today f room a → ReadGives sheet today f room (read_answer sheet today f lent)
  by-case {a} q = rw (gives a q) q

  on-sheet : (sh : Sheet) → sheet_of sheet ≡ Some sh → real_day today ≡ true → (j : Answer) → judge sh today f ≡ j
      → ReadGives sheet today f room (read_answer sheet today f lent)
  on-sheet sh e day (Refused n l p) j = by-case (fault (e, day) (judge-named sh today f n l p j) ((refused sh today f n l p).0 j))
  on-sheet sh e day (Accepted h b w) j =
      let spelled : Spelled sheet today f h (row_count b) w = (sh, b, (e, day), (exact sh today f h b w).0 j, refl) in
      by-lt room (row_count b) (λ l. by-case (no_room spelled l)) (λ l. by-case (accepted spelled l))

  given : (k : Option Sheet) → sheet_of sheet ≡ k → ReadGives sheet today f room (read_answer sheet today f lent)
  given None e = by-case (no_sheet e)
  given (Some sh) e = by-test (real_day today) (λ day. on-sheet sh e day (judge sh today f) refl) (λ day. by-case (no_day (sh, e, day)))

  -- Reading gives an answer exactly if its case holds.
  pub reads : (a : ReadAnswer) → read_answer sheet today f lent ≡ a ↔ ReadGives sheet today f room a
  reads a = (λ e. rw e at (given (sheet_of sheet) refl), gives a)

  -- ---- by number: no two cases have one

  -- the file spells a batch of more rows than are lent
  abbrev NoRoom : Type 0
  NoRoom = (h : Header) × (n : ℕ) × (w : ℕ) × Spelled sheet today f h n w × (length lent / row_size < n)

  cases : (a : ReadAnswer) → ReadGives sheet today f room a → (a.number ≡ 1 → NoSheet sheet) × (a.number ≡ 2 → NoDay sheet today) × (a.number ≡ 16 → NoRoom)
  unfolding refused_at needs accepted_as
  cases a (no_sheet q) = (λ e. q, λ e. absurd (omega arith), λ e. absurd (omega arith))
  cases a (no_day q) = (λ e. absurd (omega arith), λ e. q, λ e. absurd (omega arith))
  cases a (fault q i o) = (λ e. absurd (omega (arith, i)), λ e. absurd (omega (arith, i)), λ e. absurd (omega (arith, i)))
  cases a (no_room {h = h} {n = n} {w = w} q l) = (λ e. absurd (omega arith), λ e. absurd (omega arith), λ e. (h, n, w, q, l))
  cases a (accepted q l) = (λ e. absurd (omega arith), λ e. absurd (omega arith), λ e. absurd (omega arith))

  -- 1 exactly if the number names no sheet,
  pub number-1 : (read_answer sheet today f lent).number ≡ 1 ↔ NoSheet sheet
  unfolding refused_at
  number-1 = ((cases _ (given (sheet_of sheet) refl)).0, λ q. ap (λ (a : ReadAnswer). a.number) (says-no-sheet q))

  -- 2 exactly if it names one and today is no real day,
  pub number-2 : (read_answer sheet today f lent).number ≡ 2 ↔ NoDay sheet today
  unfolding refused_at
  number-2 = ((cases _ (given (sheet_of sheet) refl)).1, λ q. ap (λ (a : ReadAnswer). a.number) (says-no-day q))

  -- 16 exactly if the file spells a batch of more rows than are lent,
  pub number-16 : (read_answer sheet today f lent).number ≡ 16 ↔ NoRoom
  unfolding needs
  number-16 = ((cases _ (given (sheet_of sheet) refl)).2, λ (h, n, w, q, l). ap (λ (a : ReadAnswer). a.number) (gives (needs n) (no_room q l)))

  -- and then its rows are needed.
  pub needed-16 : (h : Header) (n w : ℕ) → Spelled sheet today f h n w → length lent / row_size < n → (read_answer sheet today f lent).needed ≡ n
  unfolding needs
  needed-16 h n w q l = ap (λ (a : ReadAnswer). a.needed) (gives (needs n) (no_room q l))

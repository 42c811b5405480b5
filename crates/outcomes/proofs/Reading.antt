-- What reading answers on a known sheet and a real day, by the judge's answer. Assumes nothing.
use Rattle.std.proofs.Common.{Some}
use mathlib.Core.Path.{◌≡◌, refl, sym, ap, ◌∙◌}
use mathlib.Core.Bool.{true, false}
use mathlib.Core.List.{List, [], ◌∷◌, ◌++◌}
use mathlib.Core.Logic.{◌↔◌}
use Prim.Native.Nat.{ℕ, ◌*◌, ◌/◌, ◌^◌, ◌≤◌, ◌<◌}
use native.Mathlib.Omega.{arith}
use lib.ListN.{length, take, drop}
use lib.Seq.{take_at}
use Rattle.base.proofs.Cases.{by-lt, pick_true, pick-false}
use borrow.Author.Tests.{lt-ltb, le-ltb}
use Rattle.sheet.specs.declared.Sheet.{Sheet}
use Rattle.sheet.specs.Sheets.{sheet_of}
use Rattle.paper.specs.Days.{real_day}
use Rattle.paper.specs.Batch.{Batch, Header, things, batch_of}
use Rattle.paper.specs.Lines.{lines_of}
use Rattle.paper.specs.Spells.{Spells}
use Rattle.paper.specs.Judge.{Answer, Refused, Accepted, judge}
use Rattle.paper.specs.FirstFault.{FirstFault}
use Rattle.paper.specs.Words.{rows_bytes}
use Rattle.paper.specs.Rows.{row_size, rows_in, things_in, lines_rows}
use Rattle.paper.specs.Reading.{ReadAnswer, refused_at, needs, accepted_as, row_count, answered, read_with, read_answer, filled, rows_with, rows_after}
use Rattle.exact.proofs.Main.{exact}
use Rattle.exact.proofs.faults.Main.{refused}
use Rattle.rowlaws.proofs.Main.{row-bytes, rows-return}
use Rattle.rowlaws.proofs.Main as rowlaws
use Rattle.paper.proofs.Trees.{batch-things}
use Rattle.exact.proofs.named.Main.{judge-named}
use Rattle.outcomes.specs.Outcomes.{ReadsAs}

-- a batch of one or more account files has one or more rows
some-rows : (b : Batch) → 1 ≤ length b → 1 ≤ row_count b
unfolding things
some-rows [] l = l
some-rows (f ∷ fs) l = omega arith

module _ (sheet : ℕ) (sh : Sheet) (named : sheet_of sheet ≡ Some sh) (today : ℕ) (day : real_day today ≡ true) (f lent : List ℕ) where
  abbrev room : ℕ
  room = length lent / row_size

  answer-known : read_answer sheet today f lent ≡ answered room (judge sh today f)
  unfolding read_answer read_with
  answer-known = rw named (pick_true _ _ day)

  rows-known : rows_after sheet today f lent ≡ filled sh today f lent (judge sh today f)
  unfolding rows_after rows_with
  rows-known = rw named (pick_true _ _ day)

  -- ---- the answer by the judge's

  pub says-refused : (n l p : ℕ) → judge sh today f ≡ Refused n l p → read_answer sheet today f lent ≡ refused_at n l p
  unfolding answered
  says-refused n l p e = answer-known ∙ rw e refl

  pub says-needs : (h : Header) (b : Batch) (w : ℕ) → judge sh today f ≡ Accepted h b w → room < row_count b → read_answer sheet today f lent ≡ needs (row_count b)
  unfolding answered
  says-needs h b w e l = answer-known ∙ rw e (pick_true _ _ (lt-ltb room (row_count b) l))

  pub says-accepted : (h : Header) (b : Batch) (w : ℕ) → judge sh today f ≡ Accepted h b w → row_count b ≤ room
      → read_answer sheet today f lent ≡ accepted_as h (row_count b) w
  unfolding answered
  says-accepted h b w e l = answer-known ∙ rw e (pick-false _ _ (le-ltb room (row_count b) l))

  -- ---- what the rows hold

  pub rows-filled : (h : Header) (b : Batch) (w : ℕ) → judge sh today f ≡ Accepted h b w → row_count b ≤ room
      → rows_after sheet today f lent ≡ rows_bytes (lines_rows sh today false (lines_of 0 f)) ++ drop (row_size * row_count b) lent
  unfolding filled
  rows-filled h b w e l = rows-known ∙ rw e (pick-false _ _ (le-ltb room (row_count b) l))

  pub rows-hold : (h : Header) (b : Batch) (w : ℕ) → judge sh today f ≡ Accepted h b w → row_count b ≤ room → length f < 2 ^ 64
      → things b ≡ things_in f (rows_in (take (row_size * row_count b) (rows_after sheet today f lent)))
  rows-hold h b w e l small =
      let front : take (row_size * row_count b) (rows_after sheet today f lent) ≡ rows_bytes (lines_rows sh today false (lines_of 0 f)) =
      ap (λ (s : List ℕ). take (row_size * row_count b) s) (rows-filled h b w e l)
      ∙ take_at (rows_bytes (lines_rows sh today false (lines_of 0 f))) (drop (row_size * row_count b) lent) (row_size * row_count b) (row-bytes sh today f h b w e) in
      rw front (sym (ap (λ (rs : List (List ℕ)). things_in f rs) (rows-return sh today f h b w e small) ∙ rowlaws.rows-hold sh today f h b w e))

  -- ---- accepted exactly if it spells

  reads-also : (h : Header) (b : Batch) (w : ℕ) → row_count b ≤ room → length f < 2 ^ 64 → Spells sh today f h b w → ReadsAs sheet today f lent h b w
  reads-also h b w l small s =
      let e = (exact sh today f h b w).1 s in
      record { answer = says-accepted h b w e l; holds = rows-hold h b w e l small }

  not-zero : {A : Type 0} (n l p : ℕ) (h : Header) (k w : ℕ) → judge sh today f ≡ Refused n l p → refused_at n l p ≡ accepted_as h k w → A
  unfolding refused_at accepted_as
  not-zero n l p h k w e q =
      absurd (let z : n ≡ 0 = ap (λ (a : ReadAnswer). a.number) q in let (least, _) = judge-named sh today f n l p e in omega arith)

  not-needs : {A : Type 0} (n : ℕ) (h : Header) (k w : ℕ) → needs n ≡ accepted_as h k w → A
  unfolding needs accepted_as
  not-needs n h k w q = absurd (let z : 16 ≡ 0 = ap (λ (a : ReadAnswer). a.number) q in omega arith)

  same_answer : (h h' : Header) (k k' w w' : ℕ) → accepted_as h k w ≡ accepted_as h' k' w' → (h ≡ h') × (k ≡ k') × (w ≡ w')
  unfolding accepted_as
  same_answer h h' k k' w w' q =
      (ap (λ (a : ReadAnswer). a.header) q, ap (λ (a : ReadAnswer). a.rows) q, ap (λ (a : ReadAnswer). a.warnings) q)

  reads_only : (h : Header) (b : Batch) (w : ℕ) → length f < 2 ^ 64 → (j : Answer) → judge sh today f ≡ j → ReadsAs sheet today f lent h b w → Spells sh today f h b w
  reads_only h b w small (Refused n l p) e r = not-zero n l p h (row_count b) w e (sym (says-refused n l p e) ∙ r.answer)
  reads_only h b w small (Accepted h' b' w') e r =
      by-lt room (row_count b')
      (λ l. not-needs (row_count b') h (row_count b) w (sym (says-needs h' b' w' e l) ∙ r.answer))
      (λ l.
      let (i, k, v) = same_answer h' h (row_count b') (row_count b) w' w (sym (says-accepted h' b' w' e l) ∙ r.answer) in
      let t : things b ≡ things_in f (rows_in (take (row_size * row_count b') (rows_after sheet today f lent))) = rw k r.holds in
      let same : b' ≡ b = sym (batch-things b') ∙ ap batch_of (rows-hold h' b' w' e l small ∙ sym t) ∙ batch-things b in
      (exact sh today f h b w).0 (rw (← i, ← same, ← v) e))

  -- With room for its rows, a file is accepted as a batch with a header and warnings exactly if it spells them.
  pub reads : (h : Header) (b : Batch) (w : ℕ) → row_count b ≤ room → length f < 2 ^ 64 → ReadsAs sheet today f lent h b w ↔ Spells sh today f h b w
  reads h b w l small = (reads_only h b w small (judge sh today f) refl, reads-also h b w l small)

  -- ---- refused exactly at the first fault

  refuses-only : (n l p : ℕ) (j : Answer) → judge sh today f ≡ j → read_answer sheet today f lent ≡ refused_at n l p → judge sh today f ≡ Refused n l p
  unfolding refused_at needs accepted_as
  refuses-only n l p (Refused n' l' p') e r =
      let q = sym (says-refused n' l' p' e) ∙ r in
      let i : n' ≡ n = ap (λ (a : ReadAnswer). a.number) q in
      let j : l' ≡ l = ap (λ (a : ReadAnswer). a.line) q in
      let k : p' ≡ p = ap (λ (a : ReadAnswer). a.byte) q in
      rw (← i, ← j, ← k) e
  refuses-only n l p (Accepted h b w) e r =
      by-lt room (row_count b)
      (λ s. absurd (let z : row_count b ≡ 0 = ap (λ (a : ReadAnswer). a.needed) (sym (says-needs h b w e s) ∙ r) in omega arith))
      (λ s. absurd (
      let z : row_count b ≡ 0 = ap (λ (a : ReadAnswer). a.rows) (sym (says-accepted h b w e s) ∙ r) in
      let some = some-rows b ((exact sh today f h b w).0 e).rules.0 in
      omega arith
      ))

  -- A file is refused with a number, a line and a byte exactly if they name its first fault.
  pub refuses : (n l p : ℕ) → read_answer sheet today f lent ≡ refused_at n l p ↔ FirstFault sh today f (Refused n l p)
  refuses n l p = (
    λ r. (refused sh today f n l p).0 (refuses-only n l p (judge sh today f) refl r),
    λ o. says-refused n l p ((refused sh today f n l p).1 o),
  )

-- What reading answers, and which rows it leaves, by what the file spells. Assumes nothing.
use mathlib.Core.Path.{◌≡◌, refl, sym, ap, ◌∙◌}
use mathlib.Core.List.{List, ◌++◌}
use mathlib.Core.Logic.{◌↔◌}
use Prim.Native.Nat.{ℕ, suc, ◌+◌, ◌*◌, ◌/◌, ◌≤◌, ◌<◌}
use native.Mathlib.Omega.{arith}
use lib.ListN.{length, take, drop}
use borrow.Author.Tests.{lt-ltb, le-ltb}
use Rattle.base.proofs.Cases.{by-lt, pick_true, pick-false}
use Rattle.gpc.specs.Records.{record_size, records_in}
use Rattle.gpc.specs.Statements.{Statement, things, record_spots, refused}
use Rattle.gpc.specs.Spelled.{Spells}
use Rattle.gpc.specs.FirstFault.{FirstFault}
use Rattle.gpc.specs.StatementRows.{statement_row, things_in, things_rows}
use Rattle.gpc.specs.Answers.{StatementAnswer, refused_at, needs, accepted_as, row_count, answered, judge_file, statement_answer, filled, statement_rows}
use Rattle.gpcback.proofs.Many.{rows-back-in}
use Rattle.gpcexact.proofs.Main.{unambiguous}
use Rattle.gpcexact.proofs.Named.{file-named, file-record, file-placed}
use Rattle.gpcwhole.specs.Outcomes.{Hold, ReadsAs}
use Rattle.gpcwhole.proofs.Same.{things-same}
use Rattle.gpcwhole.proofs.Judged.{by-judged, accepted-file, refused-file, spelled-proper}

-- No two lists of statements are spelled by one file.
pub one-reading : (f : List ℕ) (ss ss' : List Statement) → Spells f ss → Spells f ss' → ss ≡ ss'
one-reading f ss ss' s t = unambiguous (records_in f) ss ss' s t

module _ (f lent : List ℕ) where
  abbrev room : ℕ
  room = length lent / statement_row

  -- ---- the answer, and the rows that are left, in each of three cases

  says-refused : (n k off : ℕ) → judge_file f ≡ refused n k off → statement_answer f lent ≡ refused_at n k off
  unfolding statement_answer answered
  says-refused n k off e = rw e refl

  says-needs : (ss : List Statement) → Spells f ss → room < row_count ss → statement_answer f lent ≡ needs (row_count ss)
  unfolding statement_answer answered
  says-needs ss s l = rw ((accepted-file f ss).1 s) (pick_true _ _ (lt-ltb room (row_count ss) l))

  says-accepted : (ss : List Statement) → Spells f ss → row_count ss ≤ room → statement_answer f lent ≡ accepted_as (row_count ss)
  unfolding statement_answer answered
  says-accepted ss s l = rw ((accepted-file f ss).1 s) (pick-false _ _ (le-ltb room (row_count ss) l))

  leaves-refused : (n k off : ℕ) → judge_file f ≡ refused n k off → statement_rows f lent ≡ lent
  unfolding statement_rows filled
  leaves-refused n k off e = rw e refl

  leaves-needs : (ss : List Statement) → Spells f ss → room < row_count ss → statement_rows f lent ≡ lent
  unfolding statement_rows filled
  leaves-needs ss s l = rw ((accepted-file f ss).1 s) (pick_true _ _ (lt-ltb room (row_count ss) l))

  leaves-accepted : (ss : List Statement) → Spells f ss → row_count ss ≤ room
      → statement_rows f lent ≡ things_rows (things ss) ++ drop (statement_row * row_count ss) lent
  unfolding statement_rows filled
  leaves-accepted ss s l = rw ((accepted-file f ss).1 s) (pick-false _ _ (le-ltb room (row_count ss) l))

  by_answer : {P : Type 0}
      → ((n k off : ℕ) → judge_file f ≡ refused n k off → P)
      → ((ss : List Statement) → Spells f ss → room < row_count ss → P)
      → ((ss : List Statement) → Spells f ss → row_count ss ≤ room → P)
      → P
  by_answer wrong few fine =
      by-judged (judge_file f)
      (λ ss e. let s = (accepted-file f ss).0 e in by-lt room (row_count ss) (few ss s) (fine ss s))
      wrong

  -- ---- accepted exactly if it spells

  -- the rows in front hold the statements
  rows-hold : (ss : List Statement) → Spells f ss → row_count ss ≤ room → Hold (take (statement_row * row_count ss) (statement_rows f lent)) ss
  rows-hold ss s l =
      ap (λ (left : List ℕ). things_in (take (statement_row * row_count ss) left)) (leaves-accepted ss s l)
      ∙ rows-back-in (things ss) (drop (statement_row * row_count ss) lent) (spelled-proper f ss s)

  reads-also : (ss : List Statement) → row_count ss ≤ room → Spells f ss → ReadsAs f lent ss
  reads-also ss l s = record { answer = says-accepted ss s l; holds = rows-hold ss s l }

  reads_only : (ss : List Statement) → ReadsAs f lent ss → Spells f ss
  reads_only ss r =
      by_answer
      (λ n k off e. absurd (
      let z : suc k ≡ 0 = ap (λ (a : StatementAnswer). a.line) (sym (says-refused n k off e) ∙ r.answer) in
      omega arith
      ))
      (λ ss' s l. absurd (
      let z : 16 ≡ 0 = ap (λ (a : StatementAnswer). a.number) (sym (says-needs ss' s l) ∙ r.answer) in
      omega arith
      ))
      (λ ss' s l.
      let many : row_count ss' ≡ row_count ss = ap (λ (a : StatementAnswer). a.rows) (sym (says-accepted ss' s l) ∙ r.answer) in
      let held : Hold (take (statement_row * row_count ss') (statement_rows f lent)) ss = rw many r.holds in
      let same : ss' ≡ ss = things-same ss' ss (sym (rows-hold ss' s l) ∙ held) in
      rw (← same) s)

  -- With room for its rows, a file is accepted as statements exactly if it spells them.
  pub reads : (ss : List Statement) → row_count ss ≤ length lent / statement_row → ReadsAs f lent ss ↔ Spells f ss
  reads ss l = (reads_only ss, reads-also ss l)

  -- ---- refused exactly at the first fault

  refuses-only : (n k off : ℕ) → statement_answer f lent ≡ refused_at n k off → judge_file f ≡ refused n k off
  refuses-only n k off r =
      by_answer
      (λ n' k' off' e.
      let q = sym (says-refused n' k' off' e) ∙ r in
      let number : n' ≡ n = ap (λ (a : StatementAnswer). a.number) q in
      let line : suc k' ≡ suc k = ap (λ (a : StatementAnswer). a.line) q in
      let byte : record_size * k' + off' ≡ record_size * k + off = ap (λ (a : StatementAnswer). a.byte) q in
      let before : k' ≡ k = omega arith in
      let place : off' ≡ off = omega arith in
      rw (← number, ← before, ← place) e)
      (λ ss s l. absurd (let z : 0 ≡ suc k = ap (λ (a : StatementAnswer). a.line) (sym (says-needs ss s l) ∙ r) in omega arith))
      (λ ss s l. absurd (let z : 0 ≡ suc k = ap (λ (a : StatementAnswer). a.line) (sym (says-accepted ss s l) ∙ r) in omega arith))

  -- A file is refused with a number, at a record and a place in it, exactly if these name its first fault.
  pub refuses : (n k off : ℕ) → statement_answer f lent ≡ refused_at n k off ↔ FirstFault record_spots (records_in f) n k off
  refuses n k off = (
    λ r. (refused-file f n k off).0 (refuses-only n k off r),
    λ o. says-refused n k off ((refused-file f n k off).1 o),
  )

  -- A refusal is one of 50 to 53; it names a record, or the one that is missing behind the last, and a byte of the file, or its end.
  pub refused-by : (n k off : ℕ) → statement_answer f lent ≡ refused_at n k off
      → (50 ≤ n) × (n ≤ 53) × (k ≤ length (records_in f)) × (record_size * k + off ≤ length f)
  refused-by n k off r =
      let e = refuses-only n k off r in
      let (least, most) = file-named f n k off e in
      (least, most, file-record f n k off e, file-placed f n k off e)

  -- Every answer but 0 and 16 is such a refusal; its line counts records from 1.
  pub refused-inside : ((statement_answer f lent).number ≡ 0 → ⊥) → ((statement_answer f lent).number ≡ 16 → ⊥)
      → (50 ≤ (statement_answer f lent).number) × ((statement_answer f lent).number ≤ 53)
      × (1 ≤ (statement_answer f lent).line) × ((statement_answer f lent).line ≤ suc (length (records_in f)))
      × ((statement_answer f lent).byte ≤ length f)
  refused-inside not-0 not_16 =
      by_answer
      (λ n k off e.
      let r = says-refused n k off e in
      let (least, most, inside, placed) = refused-by n k off r in
      rw r (least, most, omega arith, omega arith, placed))
      (λ ss s l. absurd (not_16 (ap (λ (a : StatementAnswer). a.number) (says-needs ss s l))))
      (λ ss s l. absurd (not-0 (ap (λ (a : StatementAnswer). a.number) (says-accepted ss s l))))

  -- ---- rows are left as they were, and 16

  -- Whatever is not 0 leaves the lent bytes as they were.
  pub rows-kept : ((statement_answer f lent).number ≡ 0 → ⊥) → statement_rows f lent ≡ lent
  rows-kept not-0 =
      by_answer leaves-refused leaves-needs (λ ss s l. absurd (not-0 (ap (λ (a : StatementAnswer). a.number) (says-accepted ss s l))))

  -- 16 is given exactly if the file spells statements of more rows than are lent,
  pub number-16 : (statement_answer f lent).number ≡ 16 ↔ ((ss : List Statement) × Spells f ss × (length lent / statement_row < row_count ss))
  number-16 = (
    λ r. by_answer
        (λ n k off e. absurd (
        let z : n ≡ 16 = ap (λ (a : StatementAnswer). a.number) (sym (says-refused n k off e)) ∙ r in
        omega (arith, file-named f n k off e)
        ))
        (λ ss s l. (ss, s, l))
        (λ ss s l. absurd (let z : 0 ≡ 16 = ap (λ (a : StatementAnswer). a.number) (sym (says-accepted ss s l)) ∙ r in omega arith)),
    λ (ss, s, l). ap (λ (a : StatementAnswer). a.number) (says-needs ss s l),
  )

  -- and then their rows are needed.
  pub needed-16 : (ss : List Statement) → Spells f ss → length lent / statement_row < row_count ss → (statement_answer f lent).needed ≡ row_count ss
  needed-16 ss s l = ap (λ (a : StatementAnswer). a.needed) (says-needs ss s l)

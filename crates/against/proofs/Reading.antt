-- The answer of reading against a register and the bytes that it leaves, beside those of reading. Assumes nothing.
use Rattle.std.proofs.Common.{Option, Some, None}
use Prim.Native.Nat.{ℕ, ◌/◌, ◌^◌, ◌≤◌, ◌<◌}
use mathlib.Core.Path.{◌≡◌, refl, sym, ap, ◌∙◌}
use mathlib.Core.Bool.{Bool, true, false}
use mathlib.Core.List.{List}
use mathlib.Core.Logic.{◌↔◌}
use native.Mathlib.Omega.{arith}
use lib.Dec.{ltb}
use lib.ListN.{length}
use Rattle.base.specs.Pick.{pick}
use Rattle.base.proofs.Cases.{by-test, pick_same, pick_true}
use Rattle.sheet.specs.declared.Sheet.{Sheet}
use Rattle.sheet.specs.Sheets.{sheet_of}
use Rattle.paper.specs.Days.{real_day}
use Rattle.paper.specs.Batch.{Batch, Header}
use Rattle.paper.specs.Judge.{Answer, Refused, Accepted, seen, judge}
use Rattle.paper.specs.Rows.{row_size}
use Rattle.paper.specs.Reading.{ReadAnswer, refused_at, needs, accepted_as, row_count, answered, filled, read_with, read_answer, rows_with, rows_after}
use Rattle.paper.specs.Spells.{Spells}
use Rattle.exact.specs.named.Numbers.{Judged}
use Rattle.exact.proofs.Main.{exact}
use Rattle.exact.proofs.named.Main.{judge-named}
use Rattle.outcomes.proofs.Reading.{reads}
use Rattle.register.specs.Marks.{Marks, with}
use Rattle.register.specs.Register.{Register, of, register_of, fits, used, laid_in}
use Rattle.against.specs.Against.{judge_on}
use Rattle.against.specs.Registered.{registered_with, registered_answer, registered_rows_with, registered_rows, marking, marked, register_with, register_after}
use Rattle.against.specs.FirstUsed.{Unused, OtherDate, UsedNumber}
use Rattle.against.specs.Outcomes.{RegisteredAs}
use Rattle.against.proofs.Exact.{elsewhere, accepted-on}
use Rattle.against.proofs.Faults as faults

-- ---- a refusal changes neither rows nor register, whatever sheet and day

module _ (today : ℕ) (f lent register : List ℕ) where
  abbrev room : ℕ
  room = length lent / row_size

  room-enough : (h : Header) (b : Batch) (w : ℕ) → ltb room (row_count b) ≡ false → (pick (ltb room (row_count b)) (needs (row_count b)) (accepted_as h (row_count b) w)).number ≡ 0
  unfolding pick accepted_as
  room-enough h b w e = rw e

  -- a is what the file comes to, i whether the sheet looks at the register
  kept-answer : (sh : Sheet) (reg : Register) (i : Bool) (a : Answer) → ((answered room a).number ≡ 0 → ⊥)
      → (filled sh today f lent a ≡ lent) × (pick i (marked room register reg a) register ≡ register)
  unfolding answered filled marked
  kept-answer sh reg i (Refused n l p) bad = (refl, pick_same i register)
  kept-answer sh reg i (Accepted h b w) bad =
      by-test (ltb room (row_count b))
      (λ e. (pick_true _ _ e, ap (λ (x : List ℕ). pick i x register) (pick_true _ _ e) ∙ pick_same i register))
      (λ e. absurd (bad (room-enough h b w e)))

  kept-day : (sh : Sheet) (reg : Register) (d : Bool) → ((pick d (answered room (judge_on reg sh today f)) (refused_at 2 0 0)).number ≡ 0 → ⊥)
      → (pick d (filled sh today f lent (judge_on reg sh today f)) lent ≡ lent) × (pick d (pick sh.interval (marked room register reg (judge_on reg sh today f)) register) register ≡ register)
  unfolding pick
  kept-day sh reg true bad = kept-answer sh reg sh.interval (judge_on reg sh today f) bad
  kept-day sh reg false bad = (refl, refl)

  kept-sheet : (k : Option Sheet) → ((registered_with k today f room (register_of register)).number ≡ 0 → ⊥)
      → (registered_rows_with k today f lent (register_of register) ≡ lent) × (register_with k today f room register ≡ register)
  unfolding registered_with registered_rows_with register_with
  kept-sheet (Some sh) bad = kept-day sh (register_of register) (real_day today) bad
  kept-sheet None bad = (refl, refl)

pub registered-kept : (sheet today : ℕ) (f lent register : List ℕ) → ((registered_answer sheet today f lent register).number ≡ 0 → ⊥)
    → (registered_rows sheet today f lent register ≡ lent) × (register_after sheet today f lent register ≡ register)
unfolding registered_answer registered_rows register_after
registered-kept sheet today f lent register = kept-sheet today f lent register (sheet_of sheet)

-- ---- a known sheet

module _ (sheet : ℕ) (sh : Sheet) (named : sheet_of sheet ≡ Some sh) (today : ℕ) (f lent register : List ℕ) where
  -- where the register makes no difference, it is reading's own answer, and its rows
  same_answer : judge_on (register_of register) sh today f ≡ judge sh today f → registered_answer sheet today f lent register ≡ read_answer sheet today f lent
  unfolding registered_answer registered_with read_answer read_with
  same_answer e = rw (named, e)

  same_rows : judge_on (register_of register) sh today f ≡ judge sh today f → registered_rows sheet today f lent register ≡ rows_after sheet today f lent
  unfolding registered_rows registered_rows_with rows_after rows_with
  same_rows e = rw (named, e)

  -- other sheets
  module _ (i : sh.interval ≡ false) where
    alone : judge_on (register_of register) sh today f ≡ judge sh today f
    alone = elsewhere (register_of register) sh today f i

    untouched : register_after sheet today f lent register ≡ register
    unfolding register_after register_with pick
    untouched = rw (named, i) (pick_same (real_day today) register)

    pub other-sheets : (registered_answer sheet today f lent register ≡ read_answer sheet today f lent) × (registered_rows sheet today f lent register ≡ rows_after sheet today f lent)
        × (register_after sheet today f lent register ≡ register)
    other-sheets = (same_answer alone, same_rows alone, untouched)

  -- those that look at it, on a real day
  module _ (day : real_day today ≡ true) (i : sh.interval ≡ true) (headed : sh.header ≡ true) where
    abbrev reg : Register
    reg = register_of register

    says : (a : Answer) → judge_on reg sh today f ≡ a → registered_answer sheet today f lent register ≡ answered (length lent / row_size) a
    unfolding registered_answer registered_with pick
    says a e = rw (named, day, e)

    -- the file was accepted: so it is without the register
    came-to : (a : Answer) → judge_on reg sh today f ≡ a → (answered (length lent / row_size) a).number ≡ 0
        → (h : Header) × (b : Batch) × (w : ℕ) × (judge_on reg sh today f ≡ Accepted h b w) × (ltb (length lent / row_size) (row_count b) ≡ false)
    unfolding answered refused_at needs pick
    came-to (Refused n l p) e z =
        absurd (
        let own = faults.as-ever reg sh i headed today f n l p e (λ q. omega arith) (λ q. omega arith) in
        let (least, _) = judge-named sh today f n l p own in
        omega arith
        )
    came-to (Accepted h b w) e z =
        by-test (ltb (length lent / row_size) (row_count b)) (λ t. absurd (let x : 16 ≡ 0 = rw t at z in omega arith)) (λ t. (h, b, w, e, t))

    module _ (z : (registered_answer sheet today f lent register).number ≡ 0) where
      taken : (h : Header) × (b : Batch) × (w : ℕ) × (judge_on reg sh today f ≡ Accepted h b w) × (ltb (length lent / row_size) (row_count b) ≡ false)
      taken = came-to (judge_on reg sh today f) refl (ap (λ (a : ReadAnswer). a.number) (sym (says (judge_on reg sh today f) refl)) ∙ z)

      agrees : judge_on reg sh today f ≡ judge sh today f
      agrees = let (h, b, w, e, _) = taken in e ∙ sym ((accepted-on reg sh i headed today f h b w).0 e).0

      pub accepted-alike : (registered_answer sheet today f lent register ≡ read_answer sheet today f lent) × (registered_rows sheet today f lent register ≡ rows_after sheet today f lent)
      accepted-alike = (same_answer agrees, same_rows agrees)

      -- what is marked afterwards
      pub accepted-marks : (h : Header) (b : Batch) (w : ℕ) → Spells sh today f h b w → (d : ℕ) (p : Marks) → reg ≡ of d p
          → register_after sheet today f lent register ≡ laid_in register d (with (seen b) p)
      unfolding register_after register_with marked marking pick
      accepted-marks h b w s d p e =
          let (h', b', w', j, room) = taken in
          let own : judge_on reg sh today f ≡ Accepted h b w = agrees ∙ (exact sh today f h b w).1 s in
          let same : Accepted h' b' w' ≡ Accepted h b w = sym j ∙ own in
          let batch : b' ≡ b = cc in
          let space : ltb (length lent / row_size) (row_count b) ≡ false = rw batch at room in
          rw (named, day, own, space, e) (pick_true _ _ i)

    -- ---- with room for its rows a file is accepted exactly if it spells a batch, its date is the register's, and its numbers are unused

    module _ (h : Header) (b : Batch) (w : ℕ) (room : row_count b ≤ length lent / row_size) (small : length f < 2 ^ 64) where
      only : RegisteredAs sheet today f lent register h b w → Spells sh today f h b w × (fits reg h.date ≡ true) × Unused (used reg) b
      unfolding accepted_as
      only r =
          let z : (registered_answer sheet today f lent register).number ≡ 0 = ap (λ (a : ReadAnswer). a.number) r.answer in
          let (answer, rows) = accepted-alike z in
          let spells = (reads sheet sh named today day f lent h b w room small).0 (rw (answer, rows) at r) in
          let right = (accepted-on reg sh i headed today f h b w).0 (agrees z ∙ (exact sh today f h b w).1 spells) in
          (spells, right.1, right.2)

      also : Spells sh today f h b w × (fits reg h.date ≡ true) × Unused (used reg) b → RegisteredAs sheet today f lent register h b w
      also (spells, day-fits, unused) =
          let own = (exact sh today f h b w).1 spells in
          let same = (accepted-on reg sh i headed today f h b w).1 (own, day-fits, unused) ∙ sym own in
          rw (same_answer same, same_rows same) ((reads sheet sh named today day f lent h b w room small).1 spells)

      pub accepted : RegisteredAs sheet today f lent register h b w ↔ (Spells sh today f h b w × (fits reg h.date ≡ true) × Unused (used reg) b)
      accepted = (only, also)

    -- ---- 22 and 23 exactly where they are the first fault

    refused-only : (n l p : ℕ) → (n ≡ 0 → ⊥) → (n ≡ 16 → ⊥) → (a : Answer) → judge_on reg sh today f ≡ a → answered (length lent / row_size) a ≡ refused_at n l p
        → judge_on reg sh today f ≡ Refused n l p
    unfolding answered refused_at needs accepted_as pick
    refused-only n l p no-0 no-16 (Refused n' l' p') e r =
        let x : n' ≡ n = ap (λ (a : ReadAnswer). a.number) r in
        let y : l' ≡ l = ap (λ (a : ReadAnswer). a.line) r in
        let v : p' ≡ p = ap (λ (a : ReadAnswer). a.byte) r in
        rw (← x, ← y, ← v) e
    refused-only n l p no-0 no-16 (Accepted h b w) e r =
        by-test (ltb (length lent / row_size) (row_count b))
        (λ t. absurd (let x : 16 ≡ n = ap (λ (a : ReadAnswer). a.number) (rw t at r) in no-16 (sym x)))
        (λ t. absurd (let x : 0 ≡ n = ap (λ (a : ReadAnswer). a.number) (rw t at r) in no-0 (sym x)))

    refused_as : (n l p : ℕ) → (n ≡ 0 → ⊥) → (n ≡ 16 → ⊥) → registered_answer sheet today f lent register ≡ refused_at n l p ↔ judge_on reg sh today f ≡ Refused n l p
    unfolding answered
    refused_as n l p no-0 no-16 = (
      λ r. refused-only n l p no-0 no-16 (judge_on reg sh today f) refl (sym (says (judge_on reg sh today f) refl) ∙ r),
      λ e. says (Refused n l p) e,
    )

    -- and 3 to 15 are reading's own
    pub refused-alike : (n l p : ℕ) → Judged n → registered_answer sheet today f lent register ≡ refused_at n l p → read_answer sheet today f lent ≡ refused_at n l p
    refused-alike n l p (least, most) r =
        let on = (refused_as n l p (λ e. omega arith) (λ e. omega arith)).0 r in
        let own = faults.as-ever reg sh i headed today f n l p on (λ e. omega arith) (λ e. omega arith) in
        sym (same_answer (on ∙ sym own)) ∙ r

    pub refused-22 : (l p : ℕ) → registered_answer sheet today f lent register ≡ refused_at 22 l p ↔ UsedNumber reg sh today f l p
    refused-22 l p =
        let by = refused_as 22 l p (λ e. omega arith) (λ e. omega arith) in
        let at = faults.used-number reg sh i headed today f l p in
        (λ r. at.0 (by.0 r), λ o. by.1 (at.1 o))

    pub refused-23 : (l p : ℕ) → registered_answer sheet today f lent register ≡ refused_at 23 l p ↔ OtherDate reg f l p
    refused-23 l p =
        let by = refused_as 23 l p (λ e. omega arith) (λ e. omega arith) in
        let at = faults.other-date reg sh i headed today f l p in
        (λ r. at.0 (by.0 r), λ o. by.1 (at.1 o))

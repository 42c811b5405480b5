-- From the judging of a file against a register to the whole answer, the rows and the register that reading leaves. Assumes nothing.
use Rattle.std.proofs.Common.{Option, Some, None, Result, Ok, Err}
use Prim.Native.Nat.{ℕ, ◌/◌, ◌≤◌}
use mathlib.Core.Path.{◌≡◌, sym, ap, subst, ◌∙◌}
use mathlib.Core.Bool.{Bool, true, false, true≢false}
use mathlib.Core.List.{List}
use native.Mathlib.Omega.{arith}
use lib.Dec.{ltb, leb}
use lib.ListN.{length}
use borrow.Author.Tests.{leb-true}
use Rattle.base.specs.Pick.{pick}
use Rattle.base.proofs.Cases.{by-test, pick_true, pick-false, pick_same}
use Rattle.refusal.specs.Numbers.{number_of}
use Rattle.sheet.specs.declared.Sheet.{Sheet}
use Rattle.sheet.specs.Sheets.{sheet_of}
use Rattle.sheet.proofs.Laws.{Sane, sheet-sane}
use Rattle.paper.specs.Days.{real_day}
use Rattle.paper.specs.Judge.{Refused, seen, judge}
use Rattle.paper.specs.Rows.{row_size}
use Rattle.paper.specs.Reading.{ReadAnswer, refused_at, needs, accepted_as, row_count, answered, filled, read_with, rows_with}
use Rattle.fileline.specs.seen.Bits.{bit}
use Rattle.tally.specs.Short.{Yes, brief, tally}
use Rattle.tally.proofs.Short.{tally-is, refused-is}
use Rattle.judge.specs.declared.file.Ended.{Ended}
use Rattle.judge.specs.declared.refused.Refused.{Refused as Rejected}
use Rattle.judge.specs.file.Answer.{head_of, Sound, KeptEnd}
use Rattle.register.specs.declared.Loaded.{Loaded}
use Rattle.register.specs.Marks.{Marks, with}
use Rattle.register.specs.Register.{Register, malformed, of, register_size, is_laid, register_of, fits, used, laid_in}
use Rattle.register.specs.Told.{told as told_register}
use Rattle.against.specs.Against.{judge_on}
use Rattle.against.specs.Registered.{registered_with, registered_answer, registered_rows_with, registered_rows, marking, marked, register_with, register_after}
use Rattle.against.proofs.Exact.{accepted-on}
use Rattle.against.proofs.Headed.{headed}
use Rattle.registered.specs.Judged.{told_end, Judged}

-- ---- the sheet

-- r is the sheet that the number names
module _ (r : Option Sheet) (n : ℕ) (g : r ≡ sheet_of n) (today : ℕ) (f lent register : List ℕ) where
  pub on-sheet : (a : ReadAnswer) (sh : Sheet) → r ≡ Some sh → a ≡ registered_with (Some sh) today f (length lent / row_size) (register_of register)
      → a ≡ registered_answer n today f lent register
  unfolding registered_answer
  on-sheet a sh e h = h ∙ rw (← g, e)

  pub on-sheet-rows : (o : List ℕ) (sh : Sheet) → r ≡ Some sh → o ≡ registered_rows_with (Some sh) today f lent (register_of register) → o ≡ registered_rows n today f lent register
  unfolding registered_rows
  on-sheet-rows o sh e h = h ∙ rw (← g, e)

  pub on-sheet-register : (o : List ℕ) (sh : Sheet) → r ≡ Some sh → o ≡ register_with (Some sh) today f (length lent / row_size) register → o ≡ register_after n today f lent register
  unfolding register_after
  on-sheet-register o sh e h = h ∙ rw (← g, e)

  -- 1: the number names none
  module _ (e : r ≡ None) where
    pub no_sheet : (a : ReadAnswer) → a ≡ refused_at 1 0 0 → a ≡ registered_answer n today f lent register
    unfolding registered_answer registered_with
    no_sheet a h = h ∙ rw (← g, e)

    pub no-sheet-rows : lent ≡ registered_rows n today f lent register
    unfolding registered_rows registered_rows_with
    no-sheet-rows = rw (← g, e)

    pub no-sheet-register : register ≡ register_after n today f lent register
    unfolding register_after register_with
    no-sheet-register = rw (← g, e)

pub ruleset sheets = (sheet-sane, on-sheet, on-sheet-rows, on-sheet-register, no_sheet, no-sheet-rows, no-sheet-register)

-- ---- the sheets that do not look, and the day

module _ (sh : Sheet) (today : ℕ) (f lent register : List ℕ) where
  module _ (i : sh.interval ≡ false) where
    alone : judge_on (register_of register) sh today f ≡ judge sh today f
    unfolding judge_on
    alone = pick-false _ _ i

    pub other-answer : (a : ReadAnswer) (room : ℕ) → a ≡ read_with (Some sh) today f room → a ≡ registered_with (Some sh) today f room (register_of register)
    unfolding read_with registered_with
    other-answer a room h = h ∙ rw alone

    pub other-rows : (o : List ℕ) → o ≡ rows_with (Some sh) today f lent → o ≡ registered_rows_with (Some sh) today f lent (register_of register)
    unfolding rows_with registered_rows_with
    other-rows o h = h ∙ rw alone

    pub other-register : (room : ℕ) → register ≡ register_with (Some sh) today f room register
    unfolding register_with pick
    other-register room = rw i (sym (pick_same (real_day today) register))

  -- t says whether today is a day
  module _ (t : Bool) (g : t ≡ real_day today) where
    pub real-known : t ≡ true → real_day today ≡ true
    real-known e = sym g ∙ e

    module _ (e : t ≡ false) where
      pub no_day : (a : ReadAnswer) (room : ℕ) → a ≡ refused_at 2 0 0 → a ≡ registered_with (Some sh) today f room (register_of register)
      unfolding registered_with pick
      no_day a room h = h ∙ rw (sym g ∙ e)

      pub no-day-rows : lent ≡ registered_rows_with (Some sh) today f lent (register_of register)
      unfolding registered_rows_with pick
      no-day-rows = rw (sym g ∙ e)

      pub no-day-register : (room : ℕ) → register ≡ register_with (Some sh) today f room register
      unfolding register_with pick
      no-day-register room = rw (sym g ∙ e)

pub ruleset days = (other-answer, other-rows, other-register, real-known, no_day, no-day-rows, no-day-register)

-- ---- the file

-- a register that is for some day is laid out, and long enough
laid_of : (reg : Loaded) (d : ℕ) → fits (told_register reg) d ≡ true → reg.laid ≡ true
unfolding fits pick
laid_of reg d e = by-test reg.laid (λ t. t) (λ t. absurd (let z : false ≡ true = rw t at e in true≢false (sym z)))

long_of : (lent : List ℕ) (d : ℕ) (p : Marks) → register_of lent ≡ of d p → register_size ≤ length lent
unfolding register_of is_laid
long_of lent d p e =
    by-test (leb register_size (length lent)) (λ t. leb-true _ _ t)
    (λ t. absurd (let z : malformed ≡ of d p = (sym (pick-false _ _ (pick-false _ _ t))) ∙ e in let w : ◌≡◌ {A = ℕ} 0 1 = cc in omega arith))

module _ (reg : Loaded) (register : List ℕ) (g : told_register reg ≡ register_of register) (sh : Sheet) (sane : Sane sh) (i : sh.interval ≡ true) (today : ℕ) (real : real_day today ≡ true)
    (f lent : List ℕ) (ended : Result Ended Rejected) (j : Judged (told_register reg) sh today f ended) where
  -- refused
  module _ (y : Rejected) (e : ended ≡ Err y) where
    judged-no : judge_on (register_of register) sh today f ≡ Refused (number_of y.refusal) y.line y.byte
    judged-no = rw g at (refused-is (judge_on (told_register reg) sh today f) _ _ _ (sym j.same ∙ ap (told_end f) e))

    pub refused : (a : ReadAnswer) (room : ℕ) → a ≡ refused_at (number_of y.refusal) y.line y.byte → a ≡ registered_with (Some sh) today f room (register_of register)
    unfolding registered_with answered pick
    refused a room h = h ∙ rw (real, judged-no)

    pub refused-rows : lent ≡ registered_rows_with (Some sh) today f lent (register_of register)
    unfolding registered_rows_with filled pick
    refused-rows = rw (real, judged-no)

    pub refused-register : (room : ℕ) → register ≡ register_with (Some sh) today f room register
    unfolding register_with marked
    refused-register room = sym (pick_true _ _ real ∙ (pick_true _ _ i ∙ rw judged-no))

  -- accepted
  module _ (x : Ended) (e : ended ≡ Ok x) where
    pub accepted-tally : tally sh today f ≡ Yes (head_of f x.accepted.head) x.accepted.rows x.accepted.warnings
    unfolding brief
    accepted-tally =
        let n = j.numbered x e in
        tally-is sh today f ∙ (ap brief n.alone ∙ ap (λ (r : ℕ). Yes (head_of f x.accepted.head) r x.accepted.warnings) (sym n.rows_all))

    pub accepted-sound : Sound f x.accepted.head x.accepted.rows x.accepted.warnings
    accepted-sound = subst (KeptEnd f) e j.kept

    agrees : judge_on (register_of register) sh today f ≡ judge sh today f
    agrees = let n = j.numbered x e in rw g at (n.against ∙ sym n.alone)

    pub accepted : (a : ReadAnswer) (room : ℕ) → a ≡ read_with (Some sh) today f room → a ≡ registered_with (Some sh) today f room (register_of register)
    unfolding read_with registered_with
    accepted a room q = q ∙ rw agrees

    pub accepted-rows : (o : List ℕ) → o ≡ rows_with (Some sh) today f lent → o ≡ registered_rows_with (Some sh) today f lent (register_of register)
    unfolding rows_with registered_rows_with
    accepted-rows o q = q ∙ rw agrees

    laid : reg.laid ≡ true
    laid = let n = j.numbered x e in laid_of reg _ ((accepted-on (told_register reg) sh i (headed sh sane i) today f (head_of f x.accepted.head) n.batch x.accepted.warnings).0 n.against).1

    register-is : register_of register ≡ of reg.date (bit reg.set.words)
    unfolding pick
    register-is = sym g ∙ rw laid

    pub accepted-long : register_size ≤ length register
    accepted-long = long_of register _ _ register-is

    -- a is what reading answered, with that room
    module _ (a : ReadAnswer) (room : ℕ) (q : a ≡ read_with (Some sh) today f room) where
      has_room : (b : Bool) → ltb room (row_count (j.numbered x e).batch) ≡ b → a.number ≡ pick b 16 0
      unfolding read_with answered needs accepted_as pick
      has_room true t = ap (λ (r : ReadAnswer). r.number) q ∙ rw (real, (j.numbered x e).alone, t)
      has_room false t = ap (λ (r : ReadAnswer). r.number) q ∙ rw (real, (j.numbered x e).alone, t)

      marking-is : register_with (Some sh) today f room register
          ≡ pick (ltb room (row_count (j.numbered x e).batch)) register (marking register (register_of register) (j.numbered x e).batch)
      unfolding register_with marked
      marking-is = pick_true _ _ real ∙ (pick_true _ _ i ∙ ap (marked room register (register_of register)) (agrees ∙ (j.numbered x e).alone))

      -- the words hold what was marked and the batch's numbers
      holds-is : bit x.seen.words ≡ with (seen (j.numbered x e).batch) (bit reg.set.words)
      unfolding used pick
      holds-is = (j.numbered x e).holds ∙ ap (λ (r : Register). with (seen (j.numbered x e).batch) (used r)) (g ∙ register-is)

      pub marks-none : (a.number ≡ 0 → ⊥) → register ≡ register_with (Some sh) today f room register
      unfolding pick
      marks-none some =
          let n = j.numbered x e in
          by-test (ltb room (row_count n.batch)) (λ t. sym (marking-is ∙ pick_true _ _ t)) (λ t. absurd (some (has_room false t)))

      apart : ◌≡◌ {A = ℕ} 0 (pick true 16 0) → ⊥
      unfolding pick
      apart e = omega arith

      pub marks-all : a.number ≡ 0 → laid_in register reg.date (bit x.seen.words) ≡ register_with (Some sh) today f room register
      unfolding marking
      marks-all zero =
          let n = j.numbered x e in
          by-test (ltb room (row_count n.batch))
          (λ t. absurd (apart (sym zero ∙ has_room true t)))
          (λ t. sym (marking-is ∙ (pick-false _ _ t ∙ (ap (λ (r : Register). marking register r n.batch) register-is ∙ ap (laid_in register reg.date) (sym holds-is)))))

pub ruleset answers = (refused, refused-rows, refused-register, accepted-tally, accepted-sound, accepted, accepted-rows, accepted-long, marks-none, marks-all)

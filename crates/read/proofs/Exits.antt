-- How the functions of reading end: from what a function is told to the whole answer and the lent rows. Assumes nothing.
use Rattle.std.proofs.Common.{Option, Some, None, Result, Ok, Err}
use mathlib.Core.Path.{◌≡◌, sym, ap, subst, ◌∙◌}
use mathlib.Core.Bool.{Bool, true, false}
use mathlib.Core.List.{List, ◌++◌}
use Prim.Native.Nat.{ℕ, ◌/◌, ◌≤◌, ◌<◌}
use native.Mathlib.Omega.{arith}
use lib.ListN.{length, drop}
use Rattle.refusal.specs.Numbers.{number_of}
use Rattle.sheet.specs.declared.Sheet.{Sheet}
use Rattle.sheet.specs.Sheets.{sheet_of}
use Rattle.sheet.proofs.Laws.{Sane, sheet-sane}
use Rattle.paper.specs.Days.{real_day}
use Rattle.paper.specs.Batch.{Header, most14}
use Rattle.paper.specs.Lines.{lines_of}
use Rattle.paper.specs.Words.{rows_bytes}
use Rattle.paper.specs.Rows.{row_size, lines_rows}
use Rattle.paper.specs.Reading.{ReadAnswer, refused_at, needs, accepted_as, read_with, rows_with, read_answer, rows_after}
use Rattle.tally.specs.Short.{Yes, tally}
use Rattle.judge.specs.declared.file.Accepted.{Accepted}
use Rattle.judge.specs.declared.refused.Refused.{Refused}
use Rattle.judge.specs.file.Answer.{head_of, told, Sound, Kept}
use Rattle.read.proofs.Laws as laws

-- ---- the sheet

-- r is the sheet that the number names
module _ (r : Option Sheet) (n : ℕ) (g : r ≡ sheet_of n) where
  module _ (today : ℕ) (f lent : List ℕ) (a : ReadAnswer) (o : List ℕ) where
    pub on-sheet : (sh : Sheet) → r ≡ Some sh → a ≡ read_with (Some sh) today f (length lent / row_size) → a ≡ read_answer n today f lent
    unfolding read_answer
    on-sheet sh e h = h ∙ rw (← g, e)

    pub on-sheet-rows : (sh : Sheet) → r ≡ Some sh → o ≡ rows_with (Some sh) today f lent → o ≡ rows_after n today f lent
    unfolding rows_after
    on-sheet-rows sh e h = h ∙ rw (← g, e)

    -- 1: the number names none
    pub no_sheet : r ≡ None → a ≡ refused_at 1 0 0 → a ≡ read_answer n today f lent
    unfolding read_answer read_with
    no_sheet e h = h ∙ rw (← g, e)

    pub no-sheet-rows : r ≡ None → o ≡ lent → o ≡ rows_after n today f lent
    unfolding rows_after rows_with
    no-sheet-rows e h = h ∙ rw (← g, e)

pub ruleset sheets = (sheet-sane, on-sheet, on-sheet-rows, no_sheet, no-sheet-rows)

-- ---- the day and the file

module _ (sh : Sheet) (today : ℕ) (f lent : List ℕ) (a : ReadAnswer) (room : ℕ) where
  -- t says whether today is a day
  module _ (t : Bool) (g : t ≡ real_day today) where
    pub real-known : t ≡ true → real_day today ≡ true
    real-known e = sym g ∙ e

    pub no_day : t ≡ false → a ≡ refused_at 2 0 0 → a ≡ read_with (Some sh) today f room
    no_day e h = h ∙ laws.no_day sh today f lent (sym g ∙ e) room

    pub no-day-rows : t ≡ false → lent ≡ rows_with (Some sh) today f lent
    no-day-rows e = laws.no-day-rows sh today f lent (sym g ∙ e)

  -- j is what the file was judged to be
  module _ (j : Result Accepted Refused) (g : told f j ≡ tally sh today f) where
    pub refused : (r : Refused) → j ≡ Err r → real_day today ≡ true → a ≡ refused_at (number_of r.refusal) r.line r.byte → a ≡ read_with (Some sh) today f room
    refused r e real h = h ∙ laws.refused-answer sh today f lent real (number_of r.refusal) r.line r.byte (sym g ∙ ap (told f) e) room

    pub refused-rows : (r : Refused) → j ≡ Err r → real_day today ≡ true → lent ≡ rows_with (Some sh) today f lent
    refused-rows r e real = laws.refused-rows sh today f lent real (number_of r.refusal) r.line r.byte (sym g ∙ ap (told f) e)

    pub accepted : (x : Accepted) → j ≡ Ok x → tally sh today f ≡ Yes (head_of f x.head) x.rows x.warnings
    accepted x e = sym g ∙ ap (told f) e

pub accepted-sound : (f : List ℕ) (j : Result Accepted Refused) → Kept f j → (x : Accepted) → j ≡ Ok x → Sound f x.head x.rows x.warnings
accepted-sound f j k x e = subst (Kept f) e k

pub ruleset judging = (real-known, no_day, no-day-rows, refused, refused-rows, accepted, accepted-sound)

-- ---- the rows

module _ (sh : Sheet) (today : ℕ) (f lent : List ℕ) (real : real_day today ≡ true) (h : Header) (n w : ℕ) (e : tally sh today f ≡ Yes h n w) where
  pub short : (a : ReadAnswer) (room : ℕ) → room < n → a ≡ needs n → a ≡ read_with (Some sh) today f room
  short a room s g = g ∙ laws.short-answer sh today f lent real h n w e room s

  pub full : (g : Header) (room : ℕ) → n ≤ room → g ≡ h → accepted_as g n w ≡ read_with (Some sh) today f room
  full g room s x = ap (λ (k : Header). accepted_as k n w) x ∙ laws.full-answer sh today f lent real h n w e room s

  pub full-rows : (o : List ℕ) → n ≤ length lent / row_size
      → o ≡ rows_bytes (lines_rows sh today false (lines_of 0 f)) ++ drop (length (rows_bytes (lines_rows sh today false (lines_of 0 f)))) lent
      → o ≡ rows_with (Some sh) today f lent
  full-rows o s g = g ∙ laws.full-rows sh today f lent real h n w e s

pub ruleset filling = (short, laws.short-rows, laws.full-room, laws.lines-said, full, full-rows)

-- the limits that putting rows asks for
pub limits : (sh : Sheet) → Sane sh → (sh.text.most ≤ 4) × (sh.itemdigits ≤ 19) × (sh.itemmax ≤ most14)
limits sh s = (s.parts_few, omega (arith, s.digits_few), s.item_low)

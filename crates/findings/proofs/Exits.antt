-- How listing ends: from what the pass came to, to the answer and the lent bytes. Assumes nothing.
use Rattle.std.proofs.Common.{Result, Option, Some, None}
use mathlib.Core.Path.{◌≡◌, sym, ap, ◌∙◌}
use mathlib.Core.Bool.{Bool, true, false}
use mathlib.Core.List.{List, ◌++◌}
use Prim.Native.Nat.{ℕ, ◌+◌, ◌/◌, ◌^◌, ◌≤◌, ◌<◌}
use native.Mathlib.Omega.{arith}
use lib.ListN.{length, drop}
use borrow.Author.Tests.{lt-ltb, le-ltb}
use Rattle.base.specs.Pick.{pick}
use Rattle.base.specs.Put.{put}
use Rattle.sheet.specs.declared.Sheet.{Sheet}
use Rattle.sheet.specs.Sheets.{sheet_of}
use Rattle.sheet.proofs.Laws.{sheet-sane}
use Rattle.paper.specs.Days.{real_day}
use Rattle.numeral.specs.counted.Counted.{Counted}
use Rattle.numeral.proofs.counted.Laws.{counted-wrote}
use Rattle.verdict.specs.Sheets.{accepting}
use Rattle.listing.specs.Listed.{listed}
use Rattle.why.specs.declared.Finding.{Finding}
use Rattle.tracing.specs.declared.file.Tallied.{Tallied}
use Rattle.tracing.specs.file.Comes.{Comes}
use Rattle.findings.specs.Findings.{findings, in_numbers}
use Rattle.findings.specs.Lists.{ListAnswer, no_list, needs_room, list_in, filled_in, list_with, filled_with, list_answer, list_after}
use Rattle.findings.specs.outcome.Counts.{count_in, refused_in}
use Rattle.findings.proofs.Lengths.{numbers-long}
use Rattle.findings.proofs.outcome.Comes.{outcome-count, outcome-refused}

-- what is put at the front of o
pub put_front : (o s : List ℕ) → put o 0 s ≡ s ++ drop (length s) o
unfolding put
put_front o s = let e : 0 + length s ≡ length s = omega arith in ap (λ (n : ℕ). s ++ drop n o) e

-- ---- on a real day: o is what the file came to, n how many findings that are

module _ (sh : Sheet) (today : ℕ) (f lent : List ℕ) (o : Result Tallied Finding) (comes : Comes sh today f o) (n : ℕ) (long : n ≡ count_in o) where
  is : n ≡ length (findings sh today f)
  is = long ∙ outcome-count sh today f o comes

  pub short-answer : length lent / 64 < n → (a : ListAnswer) → a ≡ needs_room n → a ≡ list_in (length lent / 64) sh today f
  unfolding list_in pick
  short-answer h a e = e ∙ rw (← is, lt-ltb (length lent / 64) n h)

  pub short-lent : length lent / 64 < n → lent ≡ filled_in lent sh today f
  unfolding filled_in pick
  short-lent h = rw (← is, lt-ltb (length lent / 64) n h)

  pub full-answer : n ≤ length lent / 64 → (r : ℕ) → r ≡ refused_in o → (bits : ℕ) → bits ≡ accepting today f
      → record { number = 0; refused = r; count = n; needed = 0; sheets = bits } ≡ list_in (length lent / 64) sh today f
  unfolding list_in pick
  full-answer h r e bits q = rw (← is, le-ltb (length lent / 64) n h, ← (outcome-refused sh today f o comes), e, q)

  pub full-lent : n ≤ length lent / 64 → length lent < 2 ^ 64 → (lent' : List ℕ) (r : ℕ) → Counted lent 0 (listed (in_numbers sh today) f (findings sh today f)) lent' r
      → lent' ≡ filled_in lent sh today f
  unfolding filled_in pick
  full-lent h low lent' r w =
      let fits : 0 + length (listed (in_numbers sh today) f (findings sh today f)) ≤ length lent = omega (arith, numbers-long sh today f (findings sh today f), is) in
      (counted-wrote w (omega (arith, fits)) fits).left
      ∙ put_front lent _
      ∙ rw (← is, le-ltb (length lent / 64) n h)

pub ruleset days = (short-answer, short-lent, full-answer, full-lent)

-- ---- 2: t says whether today is a day; a is the answer, o the lent bytes afterwards

module _ (sh : Sheet) (today : ℕ) (f lent : List ℕ) (a : ListAnswer) (o : List ℕ) (t : Bool) (g : t ≡ real_day today) where
  pub real-known : t ≡ true → real_day today ≡ true
  real-known e = sym g ∙ e

  pub that-day : (room : ℕ) → t ≡ true → a ≡ list_in room sh today f → a ≡ list_with (Some sh) today f room
  unfolding list_with pick
  that-day room e h = h ∙ rw (← g, e)

  pub lent-that-day : t ≡ true → o ≡ filled_in lent sh today f → o ≡ filled_with (Some sh) today f lent
  unfolding filled_with pick
  lent-that-day e h = h ∙ rw (← g, e)

  pub no_day : (room : ℕ) → t ≡ false → a ≡ no_list 2 → a ≡ list_with (Some sh) today f room
  unfolding list_with pick
  no_day room e h = h ∙ rw (← g, e)

  pub lent-no-day : t ≡ false → o ≡ lent → o ≡ filled_with (Some sh) today f lent
  unfolding filled_with pick
  lent-no-day e h = h ∙ rw (← g, e)

pub ruleset on-days = (real-known, that-day, lent-that-day, no_day, lent-no-day)

-- ---- 1: r is the sheet that the number names

module _ (r : Option Sheet) (n : ℕ) (g : r ≡ sheet_of n) where
  pub sheet-known : (sh : Sheet) → r ≡ Some sh → sheet_of n ≡ Some sh
  sheet-known sh e = sym g ∙ e

  module _ (today : ℕ) (f lent : List ℕ) (a : ListAnswer) (o : List ℕ) where
    pub on-sheet : (sh : Sheet) → r ≡ Some sh → a ≡ list_with (Some sh) today f (length lent / 64) → a ≡ list_answer n today f lent
    unfolding list_answer
    on-sheet sh e h = h ∙ rw (← g, e)

    pub lent-on-sheet : (sh : Sheet) → r ≡ Some sh → o ≡ filled_with (Some sh) today f lent → o ≡ list_after n today f lent
    unfolding list_after
    lent-on-sheet sh e h = h ∙ rw (← g, e)

    pub no_sheet : r ≡ None → a ≡ no_list 1 → a ≡ list_answer n today f lent
    unfolding list_answer list_with
    no_sheet e h = h ∙ rw (← g, e)

    pub lent-no-sheet : r ≡ None → o ≡ lent → o ≡ list_after n today f lent
    unfolding list_after filled_with
    lent-no-sheet e h = h ∙ rw (← g, e)

pub ruleset on-sheets = (sheet-sane, sheet-known, on-sheet, lent-on-sheet, no_sheet, lent-no-sheet)

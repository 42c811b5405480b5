-- How the functions of a verdict end: from what a function is told to the verdict. Assumes nothing.
use Rattle.std.proofs.Common.{Err, Result, Ok, Option, Some, None}
use mathlib.Core.Path.{◌≡◌, sym, ◌∙◌}
use mathlib.Core.Bool.{Bool, true, false}
use mathlib.Core.List.{List}
use Prim.Native.Nat.{ℕ}
use lib.ListN.{length}
use Rattle.sheet.specs.declared.Sheet.{Sheet}
use Rattle.sheet.specs.Sheets.{sheet_of}
use Rattle.sheet.proofs.Laws.{sheet-sane}
use Rattle.paper.specs.Days.{real_day}
use Rattle.paper.specs.Reading.{refused_at, read_with}
use Rattle.tally.specs.Short.{No}
use Rattle.why.specs.declared.Finding.{Finding}
use Rattle.tracing.specs.declared.file.Tallied.{Tallied}
use Rattle.verdict.specs.declared.Verdict.{Verdict}
use Rattle.verdict.specs.Told.{verdict_of, verdict_in}
use Rattle.verdict.proofs.Laws.{in_brief, no-day-verdict, comes-verdict}

-- ---- the day and the file

module _ (sh : Sheet) (today : ℕ) (f : List ℕ) where
  -- t says whether today is a day
  module _ (t : Bool) (g : t ≡ real_day today) where
    pub real-known : t ≡ true → real_day today ≡ true
    real-known e = sym g ∙ e

    pub no_day : t ≡ false → in_brief (No 2 0 0) ≡ verdict_of (read_with (Some sh) today f (length f))
    no_day e = sym (no-day-verdict sh today f (sym g ∙ e))

pub ruleset verdicts = (real-known, no_day, comes-verdict)

-- .. found to be one of the two
module _ (o : Result Tallied Finding) where
  pub found-verdict : (x : Finding) → o ≡ Err x → record { number = x.number; line = x.line; byte = x.byte; rows = 0; warnings = 0 } ≡ verdict_in o
  found-verdict x e = rw e

  pub passed-verdict : (p : Tallied) → o ≡ Ok p → record { number = 0; line = 0; byte = 0; rows = p.rows; warnings = p.warnings } ≡ verdict_in o
  passed-verdict p e = rw e

pub ruleset outcomes = (found-verdict, passed-verdict)

-- ---- the sheet

-- r is the sheet that the number names
module _ (r : Option Sheet) (n : ℕ) (g : r ≡ sheet_of n) where
  module _ (today : ℕ) (f : List ℕ) where
    pub on-sheet : (v : Verdict) (sh : Sheet) → r ≡ Some sh → v ≡ verdict_of (read_with (Some sh) today f (length f))
        → v ≡ verdict_of (read_with (sheet_of n) today f (length f))
    on-sheet v sh e h = h ∙ rw (← g, e)

    -- 1: the number names none
    pub no_sheet : r ≡ None → in_brief (No 1 0 0) ≡ verdict_of (read_with (sheet_of n) today f (length f))
    unfolding read_with refused_at
    no_sheet e = rw (← g, e)

pub ruleset sheets = (sheet-sane, on-sheet, no_sheet)

-- The whole answer of listing what is found, and what it leaves in the lent bytes. Document 02, W-205; document 01, "Numbers returned". Assumes
-- nothing.
use Rattle.std.specs.Prelude.{ℕ, ◌/◌, List, ◌++◌, ltb, length, drop, Option, Some, None}
use Rattle.base.specs.Pick.{pick}
use Rattle.sheet.specs.declared.Sheet.{Sheet}
use Rattle.sheet.specs.Sheets.{sheet_of}
use Rattle.paper.specs.Days.{real_day}
use Rattle.paper.specs.Judge.{judge}
use Rattle.why.specs.Finding.{accepts}
use Rattle.verdict.specs.Sheets.{accepting}
use Rattle.listing.specs.Listed.{listed}
use Rattle.findings.specs.Findings.{findings, in_numbers}

-- a number; 1 where the file is refused; how many findings there are, or, with 16, are needed; the sheets that accept the file
pub record ListAnswer : Type 0 where
  pub number : ℕ
  pub refused : ℕ
  pub count : ℕ
  pub needed : ℕ
  pub sheets : ℕ

-- 1 or 2: numbers that are not named are 0
unfoldable pub no_list : ℕ → ListAnswer
no_list n = record { number = n; refused = 0; count = 0; needed = 0; sheets = 0 }

-- 16: so many findings need room
unfoldable pub needs_room : ℕ → ListAnswer
needs_room n = record { number = 16; refused = 0; count = 0; needed = n; sheets = 0 }

-- on a sheet, on a real day, with room for so many findings: last 16
unfoldable pub list_in : ℕ → Sheet → ℕ → List ℕ → ListAnswer
list_in room sh today f =
    pick (ltb room (length (findings sh today f)))
    (needs_room (length (findings sh today f)))
    (record {
      number = 0;
      refused = pick (accepts (judge sh today f)) 0 1;
      count = length (findings sh today f);
      needed = 0;
      sheets = accepting today f;
    })

-- first 1 and 2
unfoldable pub list_with : Option Sheet → ℕ → List ℕ → ℕ → ListAnswer
list_with (Some sh) today f room = pick (real_day today) (list_in room sh today f) (no_list 2)
list_with None today f room = no_list 1

-- the lent bytes have room for a finding in each 64
unfoldable pub list_answer : ℕ → ℕ → List ℕ → List ℕ → ListAnswer
list_answer sheet today f lent = list_with (sheet_of sheet) today f (length lent / 64)

-- ---- the lent bytes afterwards: the findings in front of the old bytes behind them; a refusal leaves them as they were

-- on a sheet, on a real day
unfoldable pub filled_in : List ℕ → Sheet → ℕ → List ℕ → List ℕ
filled_in lent sh today f =
    pick (ltb (length lent / 64) (length (findings sh today f))) lent
    (listed (in_numbers sh today) f (findings sh today f) ++ drop (length (listed (in_numbers sh today) f (findings sh today f))) lent)

-- 1 and 2 leave them alone too
unfoldable pub filled_with : Option Sheet → ℕ → List ℕ → List ℕ → List ℕ
filled_with (Some sh) today f lent = pick (real_day today) (filled_in lent sh today f) lent
filled_with None today f lent = lent

-- of the sheet that the number names
unfoldable pub list_after : ℕ → ℕ → List ℕ → List ℕ → List ℕ
list_after sheet today f lent = filled_with (sheet_of sheet) today f lent

-- The whole answer of writing, and what it leaves in the lent output. Document 01, "Numbers returned". Assumes nothing.
use Rattle.std.specs.Prelude.{ℕ, ◌≡◌, List, ◌++◌, ltb, length, drop, Option, Some, None}
use Rattle.base.specs.Pick.{pick}
use Rattle.sheet.specs.declared.Sheet.{Sheet}
use Rattle.sheet.specs.Sheets.{sheet_of}
use Rattle.paper.specs.Days.{real_day}
use Rattle.paper.specs.Batch.{Header, Thing, batch_of}
use Rattle.paper.specs.Proper.{Verdict, fine, wrong, header_proper, batch_proper}
use Rattle.paper.specs.Rows.{rows_in, things_in}
use Rattle.paper.specs.Carried.{header_carried, batch_carried}
use Rattle.paper.specs.Canonical.{canon}

-- the file's bytes, or why there is none: number, row, field
pub data Draft : Type 0 where
  drafted : List ℕ → Draft
  refusal : ℕ → ℕ → ℕ → Draft

-- writing refuses: with some number, row and field
abbrev pub Refuses : Draft → Type 0
Refuses d = (n : ℕ) × (row : ℕ) × (field : ℕ) × (d ≡ refusal n row field)

-- a fault that was found is refused with its number; otherwise the next is tested
unfoldable pub on_verdict : ℕ → Verdict → Draft → Draft
on_verdict n fine rest = rest
on_verdict n (wrong row field) rest = refusal n row field

-- 20, then 21, each by the header first, then rows and fields in row order; where a sheet has no header (C), none is looked at
unfoldable pub draft_of : Sheet → ℕ → Header → List Thing → Draft
draft_of sh today h ts =
    on_verdict 20 (pick sh.header (header_proper h) fine)
    (on_verdict 20 (batch_proper ts)
    (on_verdict 21 (pick sh.header (header_carried sh.interval h) fine)
    (on_verdict 21 (batch_carried sh today h ts)
    (drafted (canon sh h (batch_of ts))))))

-- 1 and 2 come before
unfoldable pub draft_with : Option Sheet → ℕ → Header → List Thing → Draft
draft_with (Some sh) today h ts = pick (real_day today) (draft_of sh today h ts) (refusal 2 0 0)
draft_with None today h ts = refusal 1 0 0

-- of lent rows, with the lent bytes their texts lie in
unfoldable pub draft : ℕ → ℕ → Header → List ℕ → List ℕ → Draft
draft sheet today h rows texts = draft_with (sheet_of sheet) today h (things_in texts (rows_in rows))

-- ---- the answer, with the bytes written or, with 16, needed; and the output afterwards

-- number, row and field, and the bytes written or needed
pub record WriteAnswer : Type 0 where
  pub number : ℕ
  pub row : ℕ
  pub field : ℕ
  pub bytes : ℕ

-- last 16: `room` bytes are lent
unfoldable pub written_in : ℕ → Draft → WriteAnswer
written_in room (drafted s) =
    pick (ltb room (length s))
    (record { number = 16; row = 0; field = 0; bytes = length s })
    (record { number = 0; row = 0; field = 0; bytes = length s })
written_in room (refusal n row field) = record { number = n; row = row; field = field; bytes = 0 }

-- the file in front of the old bytes behind it; a refusal leaves the output as it was
unfoldable pub output_after : List ℕ → Draft → List ℕ
output_after old (drafted s) = pick (ltb (length old) (length s)) old (s ++ drop (length s) old)
output_after old (refusal n row field) = old

-- What the answer that a caller is given stands for, and what judging tells before it. Document 01, "Numbers returned". Assumes nothing.
use Rattle.std.specs.Prelude.{ℕ, ◌≡◌, true, List, ◌++◌, length, drop, Result, Ok, Err}
use Rattle.base.specs.Pick.{pick}
use Rattle.sheet.specs.declared.Sheet.{Sheet}
use Rattle.paper.specs.Batch.{Header, Thing, batch_of}
use Rattle.paper.specs.Proper.{fine, batch_proper}
use Rattle.paper.specs.Carried.{header_carried, batch_carried}
use Rattle.paper.specs.Canonical.{canon}
use Rattle.paper.specs.Writing.{Draft, drafted, refusal, on_verdict, WriteAnswer}
use Rattle.write.specs.declared.AboWritten.{AboWritten}
use Rattle.refusal.specs.Numbers.{number_of}
use Rattle.write.specs.declared.Refused.{Refused}

-- "The batch": the header of these numbers and this name
abbrev pub header_of : ℕ → List ℕ → ℕ → ℕ → ℕ → Header
header_of date name client from to = record { date = date; name = name; client = client; from = from; to = to }

-- the number returned, its row and field, and the bytes written or needed
abbrev pub told : AboWritten → WriteAnswer
told a = record { number = a.number; row = a.row; field = a.field; bytes = a.bytes }

-- a refusal has no bytes
abbrev pub refused_at : ℕ → ℕ → ℕ → WriteAnswer
refused_at number row field = record { number = number; row = row; field = field; bytes = 0 }

-- 0 and 16 have no row and no field
abbrev pub counted_as : ℕ → ℕ → WriteAnswer
counted_as number bytes = record { number = number; row = 0; field = 0; bytes = bytes }

-- where the sheet has a header, its name is 20 bytes
abbrev pub Named : Sheet → Header → Type 0
Named sh h = sh.header ≡ true → length h.name ≡ 20

-- the bytes s, and what stood behind their place
abbrev pub before : List ℕ → List ℕ → List ℕ
before s old = s ++ drop (length s) old

-- what judging a batch tells of its draft: the number, row and field that it is refused with; or how many bytes its file has
unfoldable pub Tells : Result ℕ Refused → Draft → Type 0
Tells (Err r) d = d ≡ refusal (number_of r.refusal) r.at.row r.at.field
Tells (Ok n) d = (s : List ℕ) × (d ≡ drafted s) × (n ≡ length s)

-- behind the header's 20: the rows' 20, the header's 21, the rows' 21
unfoldable pub rows_draft : Sheet → ℕ → Header → List Thing → Draft
rows_draft sh today h ts =
    on_verdict 20 (batch_proper ts)
    (on_verdict 21 (pick sh.header (header_carried sh.interval h) fine)
    (on_verdict 21 (batch_carried sh today h ts)
    (drafted (canon sh h (batch_of ts)))))

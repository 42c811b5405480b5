-- What the answer of a file stands for, and what the readers that call each other do. Assumes nothing.
use Rattle.std.specs.Prelude.{ℕ, ◌+◌, ◌≤◌, min, ◌≡◌, Option, Some, None, Result, Ok, Err, List, length, take, drop}
use Rattle.refusal.specs.Numbers.{number_of}
use Rattle.sheet.specs.declared.Sheet.{Sheet}
use Rattle.paper.specs.Batch.{Header, no_header}
use Rattle.paper.specs.Lines.{lines_from}
use Rattle.fileline.specs.seen.Bits.{Holds}
use Rattle.firstline.specs.declared.Header.{Header as Head}
use Rattle.tally.specs.Short.{Brief, No, Yes}
use Rattle.tally.specs.Tally.{t_file, run}
use Rattle.tally.specs.Tally as numbers
use Rattle.judge.specs.declared.accountfile.Left.{Left}
use Rattle.judge.specs.accountfile.Resume.{Good, to_go, Same}
use Rattle.judge.specs.declared.file.Accepted.{Accepted}
use Rattle.judge.specs.declared.file.Ended.{Ended}
use Rattle.judge.specs.declared.file.Terms.{Terms}
use Rattle.judge.specs.declared.refused.Refused.{Refused}

-- ---- the answer

-- the header, if there is one; its name is the 20 bytes of the file behind `UHL1` and the date
abbrev pub head_of : List ℕ → Option Head → Header
head_of f (Some h) = record { date = h.date; name = take 20 (drop 10 f); client = h.client; from = h.from; to = h.to }
head_of f None = no_header

-- a refusal's number, line and byte; or the header and the counts of rows and warnings
abbrev pub told : List ℕ → Result Accepted Refused → Brief
told f (Ok a) = Yes (head_of f a.head) a.rows a.warnings
told f (Err r) = No (number_of r.refusal) r.line r.byte

-- the name stands in the file
abbrev pub NameIn : List ℕ → Option Head → Type 0
NameIn f (Some h) = 30 ≤ length f
NameIn f None = Unit {0}

-- a name stands in the file, and there are no more rows and warnings than 1,000 account files of 99,999 items can have
pub record Sound (f : List ℕ) (h : Option Head) (rows warnings : ℕ) : Type 0 where
  pub name : NameIn f h
  pub rows_low : rows ≤ 199999001
  pub warnings_low : warnings ≤ 799992001

abbrev pub Kept : List ℕ → Result Accepted Refused → Type 0
Kept f (Ok a) = Sound f a.head a.rows a.warnings
Kept f (Err r) = Unit {0}

abbrev pub KeptEnd : List ℕ → Result Ended Refused → Type 0
KeptEnd f (Ok e) = Sound f e.accepted.head e.accepted.rows e.accepted.warnings
KeptEnd f (Err r) = Unit {0}

-- ---- the readers

-- from o to r on a budget: the file's answer stays, and r is nearer to it; with no budget reading may stand where it stood
pub record Went (sh : Sheet) (today from to : ℕ) (f : List ℕ) (o : Result Left Refused) (budget : ℕ) (before after : List ℕ) (r : Result Left Refused) : Type 0 where
  pub same : Same sh today from to f o before after r
  pub good : Good f r
  pub less : to_go f r + min budget 1 ≤ to_go f o

-- ---- the file

-- what holds for the whole file: the interval is the header's
abbrev pub terms_of : Sheet → ℕ → Option Head → Terms
terms_of sh today (Some h) = record { sheet = sh; today = today; from = h.from; to = h.to }
terms_of sh today None = record { sheet = sh; today = today; from = 0; to = 0 }

-- the answer of the file f from behind its first line, where line 2 starts at `at` and the numbers u count as seen before
unfoldable pub from_seen : List ℕ → Sheet → ℕ → List ℕ → ℕ → Option Head → numbers.Brief
from_seen u sh today f at h =
    run sh today (length f) 2 (lines_from f at) (t_file (record { head = head_of f h; seen = u; files = 0; items = 0; rows = 0; warnings = 0 }))

-- r is the answer a, and of an accepted file the words hold the numbers that a has
abbrev pub Concluded : List ℕ → numbers.Brief → Result Ended Refused → Type 0
Concluded f a (Ok e) = (m : List ℕ) × Holds e.seen.words m × (a ≡ numbers.Yes (head_of f e.accepted.head) m e.accepted.rows e.accepted.warnings)
Concluded f a (Err r) = a ≡ numbers.No (number_of r.refusal) r.line r.byte

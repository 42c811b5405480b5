-- What the answer of `first_line` stands for in document 01, "Lines" and "Numbers returned", and the bounds of its numbers. Assumes nothing.
use Rattle.std.specs.Prelude.{ℕ, ◌^◌, ◌≤◌, ◌<◌, ◌≡◌, true, Option, Some, None, Result, Ok, Err, List, length}
use Rattle.base.specs.Seek.{all}
use Rattle.refusal.specs.declared.Flaw.{Flaw}
use Rattle.refusal.specs.Numbers.{number_of}
use Rattle.paper.specs.Bytes.{is_text}
use Rattle.paper.specs.Days.{real_day}
use Rattle.paper.specs.Batch.{no_header}
use Rattle.paper.specs.Entries.{head, Listed, plain, no}
use Rattle.firstline.specs.declared.Header.{Header}
use Rattle.firstline.specs.Stages.{name_in}

-- the header with the name that stands in the line s, with no warning; or the number of the refusal and its place
abbrev pub told_header : List ℕ → Result Header Flaw → Listed
told_header s (Ok h) = plain (head (record { date = h.date; name = name_in s; client = h.client; from = h.from; to = h.to }))
told_header s (Err x) = no (number_of x.0) x.1

-- the same, or no header
abbrev pub told : List ℕ → Result (Option Header) Flaw → Listed
told s (Ok (Some h)) = told_header s (Ok h)
told s (Ok None) = plain (head no_header)
told s (Err x) = no (number_of x.0) x.1

-- Fields that were read are as "The batch" says, and the line holds them all; a refusal lies in the line, if the line has its `UHL1`.
abbrev pub Sound : List ℕ → Result (Option Header) Flaw → Type 0
Sound s (Ok (Some h)) =
    (46 ≤ length s) × (real_day h.date ≡ true) × (all is_text (name_in s) ≡ true) × (h.client < 10 ^ 10) × (h.from < 1000) × (h.to < 1000)
Sound s (Ok None) = Unit {0}
Sound s (Err x) = 4 ≤ length s → x.1 ≤ length s

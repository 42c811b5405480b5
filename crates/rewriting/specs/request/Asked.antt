-- What a request stands for: what is written for it. Document 01, "A whole run". Assumes nothing.
use Rattle.std.specs.Prelude.{ℕ, ◌≤◌, ◌≡◌, true, Result, Ok, Err, List, length, drop, Some}
use Rattle.refusal.specs.declared.Refusal.{Refusal}
use Rattle.refusal.specs.Numbers.{number_of}
use Rattle.sheet.specs.Sheets.{sheet_of}
use Rattle.paper.specs.Days.{real_day}
use Rattle.paper.specs.Judge.{judge}
use Rattle.paper.specs.Explaining.{refused_line}
use Rattle.paper.specs.Rewriting.{rewritten}
use Rattle.rewriting.specs.declared.request.Request.{Request}

-- what is written for the file that begins at its place of the input, or a refusal's line
abbrev pub answer : List ℕ → Result Request Refusal → List ℕ
answer input (Ok x) = rewritten x.sh (judge x.sh x.today (drop x.at input))
answer input (Err r) = refused_line (number_of r) 0 0

-- a file is asked for only on a known sheet, on a real day, and where the input has 8 KiB at most
abbrev pub Sound : List ℕ → Result Request Refusal → Type 0
Sound input (Ok x) =
    (sheet_of x.sh.number ≡ Some x.sh) × (real_day x.today ≡ true) × (x.at ≤ length input) × (length input ≤ 8192)
Sound input (Err r) = Unit {0}

-- What a reader of lines finds at a place of a file, by the same cut of a line as the cursor's. Document 01, "Lines". Assumes nothing.
use Rattle.std.specs.Prelude.{ℕ, ◌+◌, ◌≡◌, List, [], Option, Some, None}
use Rattle.std.specs.Borrow.{Bor}
use Rattle.paper.specs.Lines.{lines_from}
use Rattle.scan.specs.declared.line.Cut.{Cut}
use Rattle.scan.specs.line.Cutting.{Cuts}
use Rattle.reader.specs.declared.Found.{Found}
use Rattle.reader.specs.declared.LineReader.{LineReader}
use Rattle.reader.specs.Named.{LineAnswer}

-- a reader of these two
abbrev pub reader_at : Bor (List ℕ) → ℕ → LineReader
reader_at file at = record { file = file; at = at }

-- a line and where the next one starts
abbrev pub cut_of : Found → Cut
cut_of r = record { stop = r.start + r.len; next = r.next }

-- what stands at the place `at` of the file f: the line that is cut off there; or no line is left there
abbrev pub Finds : List ℕ → ℕ → Option Found → Type 0
Finds f at (Some r) = (r.start ≡ at) × Cuts f at (cut_of r)
Finds f at None = lines_from f at ≡ []

-- the place behind what stands at the place `at`: where the next line starts, or the same at the file's end
abbrev pub behind : ℕ → Option Found → ℕ
behind at (Some r) = r.next
behind at None = at

-- what stands at the place `at`, as an answer: the line, or the file's end as an empty one
abbrev pub answer_at : Option Found → ℕ → LineAnswer
answer_at (Some r) at = record { found = 1; at = r.start; len = r.len }
answer_at None at = record { found = 1; at = at; len = 0 }

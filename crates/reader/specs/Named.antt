-- The line of a number, as refusals count lines: from 1, and the file's end counts as one line more, since a refusal of a file that ends too
-- early points there. Document 01, "Lines" and "Numbers returned". Assumes nothing.
use Rattle.std.specs.Prelude.{ℕ, ◌-◌, List, [], ◌∷◌, ◌++◌, eqb, length}
use Rattle.base.specs.Pick.{pick}
use Rattle.paper.specs.Lines.{Line, line, lines_of}
use Rattle.reader.specs.declared.AboLine.{AboLine}

-- found 1, where the line starts and how many bytes it has without its end; or found 0
pub record LineAnswer : Type 0 where
  pub found : ℕ
  pub at : ℕ
  pub len : ℕ

-- no line has that number
abbrev pub no_line : LineAnswer
no_line = record { found = 0; at = 0; len = 0 }

-- this line has it
abbrev pub is_line : Line → LineAnswer
is_line t = record { found = 1; at = t.start; len = length t.bytes }

-- the line number n of ts, which count from 1
unfoldable pub nth : ℕ → List Line → LineAnswer
nth n [] = no_line
nth n (t ∷ ts) = pick (eqb n 1) (is_line t) (nth (n - 1) ts)

-- the end of a file f, as an empty line
abbrev pub end_line : List ℕ → Line
end_line f = line (length f) []

-- the lines of a file, and its end behind them
unfoldable pub places : List ℕ → List Line
places f = lines_of 0 f ++ (end_line f ∷ [])

-- the line of a number
unfoldable pub line_answer : ℕ → List ℕ → LineAnswer
line_answer n f = nth n (places f)

-- of the answer that a caller is given
abbrev pub told : AboLine → LineAnswer
told a = record { found = a.found; at = a.at; len = a.len }

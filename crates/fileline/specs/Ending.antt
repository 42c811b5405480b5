-- The end of the line `1 KIND NUMBER BANK`. Document 01, "Lines". Assumes nothing.
use Rattle.std.specs.Prelude.{ℕ, List}
use Rattle.sheet.specs.declared.Sheet.{Sheet}
use Rattle.paper.specs.FileLine.{read_code}
use Rattle.paper.specs.Entries.{file, Listed, plain, field, line_end}

-- BANK and nothing behind it, after KIND and NUMBER; `at` is the offset in the line, s the rest from there
abbrev pub code_and_end : Sheet → ℕ → ℕ → ℕ → List ℕ → Listed
code_and_end sh kind number at s = field (read_code sh) at s λ bank a1 s1. line_end a1 s1 (plain (file kind number))

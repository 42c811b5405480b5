-- A file judged against a register of the day's numbers. Request W-207: 23 at the header's date, behind that field's other refusals; 22 at an
-- account file's number, behind 9. All else is document 01's. Assumes nothing.
use Rattle.std.specs.Prelude.{ℕ, suc, Bool, false, not, List, [], ◌∷◌, eqb, length, drop}
use Rattle.base.specs.Pick.{pick}
use Rattle.sheet.specs.declared.Sheet.{Sheet}
use Rattle.paper.specs.Days.{short_day}
use Rattle.paper.specs.Lines.{Line, lines_of}
use Rattle.paper.specs.Entries.{Listed, Said, got, no, place, counted, Kind, head_line, file_line, group_line, item_line, group_end, file_end, kind_of}
use Rattle.paper.specs.FirstLine.{read_first}
use Rattle.paper.specs.FileLine.{series, read_file}
use Rattle.paper.specs.Spells.{Context, number_test, read_as}
use Rattle.paper.specs.Judge.{Answer, Refused, State, at_first, at_file, at_group, at_item, stop, context_of, is_due, is_full, on_said, end_of, judge}
use Rattle.register.specs.Marks.{Marks}
use Rattle.register.specs.Register.{Register, fits, used}

-- ---- the two fields that are looked up

-- an account file's number: what document 01 refuses it with, and then 22 where its first three digits are marked; 0 is none
unfoldable pub unused_test : Marks → (ℕ → ℕ) → ℕ → ℕ
unused_test marks test n = pick (eqb (test n) 0) (pick (marks (series n)) 22 0) (test n)

-- the creation date of a first line, as document 01 reads it, behind `UHL1`
unfoldable pub day_of : List ℕ → Said ℕ
day_of s = place 6 short_day 4 (drop 4 s) λ date a1 s1. got date

-- a day that was read is one for which the register is not
unfoldable pub is_other : Register → Said ℕ → Bool
is_other reg (got d) = not (fits reg d)
is_other reg (no n off) = false

-- ---- the lines: those that have such a field, and the others as ever

-- The date is the first field, so that 23 comes before all that the line may be refused with behind it.
unfoldable pub read_first_on : Register → Sheet → List ℕ → Listed
read_first_on reg sh s = pick (is_other reg (day_of s)) (no 23 4) (read_first sh s)

unfoldable pub read_on : Register → Sheet → ℕ → Context → Kind → List ℕ → Listed
read_on reg sh today c head_line s = read_first_on reg sh s
read_on reg sh today c file_line s = read_file sh (unused_test (used reg) (number_test sh c.numbers)) s
read_on reg sh today c group_line s = read_as sh today c group_line s
read_on reg sh today c item_line s = read_as sh today c item_line s
read_on reg sh today c group_end s = read_as sh today c group_end s
read_on reg sh today c file_end s = read_as sh today c file_end s

-- ---- the file, line by line, as document 01 judges it: 3 and 15 come before a line's fields

unfoldable pub line_on : Register → Sheet → ℕ → ℕ → Line → Kind → State → State
line_on reg sh today k t kind st =
    pick (is_due st kind)
    (pick (is_full sh st kind)
    (stop (Refused 15 k t.start))
    (on_said sh k t.start (counted (read_on reg sh today (context_of st) kind t.bytes)) st))
    (stop (Refused 3 k t.start))

unfoldable pub step_on : Register → Sheet → ℕ → ℕ → Line → State → State
step_on reg sh today k t at_first = line_on reg sh today k t (kind_of t.bytes) at_first
step_on reg sh today k t (at_file x) = line_on reg sh today k t (kind_of t.bytes) (at_file x)
step_on reg sh today k t (at_group x) = line_on reg sh today k t (kind_of t.bytes) (at_group x)
step_on reg sh today k t (at_item x) = line_on reg sh today k t (kind_of t.bytes) (at_item x)
step_on reg sh today k t (stop a) = stop a

unfoldable pub run_on : Register → Sheet → ℕ → ℕ → ℕ → List Line → State → Answer
run_on reg sh today n k [] st = end_of n k st
run_on reg sh today n k (t ∷ ts) st = run_on reg sh today n (suc k) ts (step_on reg sh today k t st)

-- only a sheet with K's number rule (`interval`) looks at the register
unfoldable pub judge_on : Register → Sheet → ℕ → List ℕ → Answer
judge_on reg sh today f = pick sh.interval (run_on reg sh today (length f) 1 (lines_of 0 f) at_first) (judge sh today f)

-- When 22 and 23 are the first fault, declared: the lines before break no rule, and the register speaks against this field. Request W-207. Assumes nothing.
use Rattle.std.specs.Prelude.{ℕ, suc, ◌+◌, ◌<◌, ◌≡◌, true, false, List, ◌∷◌, length}
use Rattle.sheet.specs.declared.Sheet.{Sheet}
use Rattle.paper.specs.Lines.{Line, lines_of}
use Rattle.paper.specs.Entries.{got, no, head_line, file_line, kind_of}
use Rattle.paper.specs.FileLine.{series, member, number_fault, read_file}
use Rattle.paper.specs.Batch.{Batch}
use Rattle.paper.specs.Judge.{rev_on, seen, Between, at_file}
use Rattle.paper.specs.FirstFault.{Lawful}
use Rattle.register.specs.Marks.{Marks}
use Rattle.register.specs.Register.{Register, fits, used}
use Rattle.against.specs.Against.{day_of}

-- no account file of the batch has a number whose first three digits are marked
abbrev pub Unused : Marks → Batch → Type 0
Unused p b = (n : ℕ) → member n (seen b) ≡ true → p n ≡ false

-- the line of an account file is right up to its number n, which stands at `off`: whatever n is refused with is what the line is refused with
abbrev pub Reaches : Sheet → List ℕ → ℕ → ℕ → Type 0
Reaches sh s n off = (test : ℕ → ℕ) → (test n ≡ 0 → ⊥) → read_file sh test s ≡ no (test n) off

-- 23, at byte p of line l: a first line has a date that can be read, and the register is not for that day
pub record OtherDate (reg : Register) (f : List ℕ) (l p : ℕ) : Type 0 where
  pub line : Line
  pub after : List Line
  pub split : lines_of 0 f ≡ line ∷ after
  pub kind : kind_of line.bytes ≡ head_line
  pub date : ℕ
  pub read : day_of line.bytes ≡ got date
  pub other : fits reg date ≡ false
  pub place : (l ≡ 1) × (p ≡ line.start + 4)

-- 22, at byte p of line l: the lines before break no rule, the register is for their date and marks none of their numbers; then comes the line of
-- an account file, right up to a number that document 01 allows and that is marked
pub record UsedNumber (reg : Register) (sh : Sheet) (today : ℕ) (f : List ℕ) (l p : ℕ) : Type 0 where
  pub before : List Line
  pub line : Line
  pub after : List Line
  pub split : lines_of 0 f ≡ rev_on before (line ∷ after)
  pub so_far : Between
  pub lawful : Lawful sh today before (at_file so_far)
  pub day : fits reg so_far.header.date ≡ true
  pub unused : Unused (used reg) so_far.files
  pub room : length so_far.files < 1000
  pub kind : kind_of line.bytes ≡ file_line
  pub number : ℕ
  pub off : ℕ
  pub reaches : Reaches sh line.bytes number off
  pub allowed : number_fault sh.interval so_far.header (seen so_far.files) number ≡ 0
  pub marked : used reg (series number) ≡ true
  pub place : (l ≡ suc (length before)) × (p ≡ line.start + off)

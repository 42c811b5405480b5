-- What is found in a file: the one fault of a refused file. Document 02, W-205; document 01, "Numbers returned". Assumes nothing.
use Rattle.std.specs.Prelude.{ℕ, suc, ◌+◌, Bool, true, false, List, [], ◌∷◌, ltb, leb, length, drop}
use Rattle.base.specs.Pick.{pick}
use Rattle.sheet.specs.declared.Sheet.{Sheet}
use Rattle.paper.specs.Bytes.{field_of, null}
use Rattle.paper.specs.Batch.{sum, most14}
use Rattle.paper.specs.Lines.{Line, lines_of}
use Rattle.paper.specs.Entries.{Kind, kind_of}
use Rattle.paper.specs.Spells.{group_items}
use Rattle.paper.specs.Judge.{Answer, Refused, Accepted, InGroup, State, at_first, at_file, at_group, at_item, stop, context_of, is_due, is_full, items_of, step}
use Rattle.why.specs.declared.Finding.{Finding}
use Rattle.why.specs.Names.{Name, group_total, whole_line, field_number}
use Rattle.why.specs.Walk.{Walked, passed, stopped, why_as}

-- a finding of these: number, cause, line, byte, how many bytes were found, field, from what to what was allowed
abbrev pub finding : ℕ → ℕ → ℕ → ℕ → ℕ → Name → ℕ → ℕ → Finding
finding n why l b len name a z =
    record { number = n; cause = why; line = l; byte = b; length = len; field = field_number name; least = a; most = z }

-- ---- 3: which line was due

-- 30 the first line; 31 an account file, 36 another or the file's end; 32 a group, 35 another or the account file's end; 33 an item, 34 another
-- or the group's end
unfoldable pub due_cause : State → ℕ
due_cause at_first = 30
due_cause (at_file x) = pick (null x.files) 31 36
due_cause (at_group x) = pick (null x.groups) 32 35
due_cause (at_item x) = pick (null x.items) 33 34
due_cause (stop a) = 0

-- the line k, which is not due: all of it was found
unfoldable pub not_due : ℕ → Line → State → Finding
not_due k t st = finding 3 (due_cause st) k t.start (length t.bytes) whole_line 0 0

-- the file ends after n bytes, where line k would be: nothing was found
unfoldable pub early : ℕ → ℕ → State → Finding
early n k st = finding 3 (due_cause st) k n 0 whole_line 0 0

-- ---- 15: which limit was reached

-- 150: 1,000 account files; 151: 99,999 items of an account file; 152: as many of a file as the sheet allows
unfoldable pub full_cause : State → ℕ
full_cause at_first = 150
full_cause (at_file x) = 150
full_cause (at_group x) = 150
full_cause (at_item x) = pick (leb 99999 (length x.items + group_items x.groups)) 151 152
full_cause (stop a) = 150

-- so many were allowed
unfoldable pub full_limit : Sheet → State → ℕ
full_limit sh at_first = 1000
full_limit sh (at_file x) = 1000
full_limit sh (at_group x) = 1000
full_limit sh (at_item x) = pick (leb 99999 (length x.items + group_items x.groups)) 99999 sh.fileitems
full_limit sh (stop a) = 1000

-- the line k, which is one too many: all of it was found
unfoldable pub too_many : Sheet → ℕ → Line → State → Finding
too_many sh k t st = finding 15 (full_cause st) k t.start (length t.bytes) whole_line 0 (full_limit sh st)

-- ---- 10: the closing line has passed, and the total is refused

-- the file f, and the exact sum: past 14 digits (101), or another than the total (100), which is found where the group's line has it
unfoldable pub total_found : List ℕ → InGroup → ℕ → Finding
total_found f x exact =
    pick (ltb most14 exact)
    (finding 10 101 x.head.line x.head.byte (length (field_of (drop x.head.byte f))) group_total 0 most14)
    (finding 10 100 x.head.line x.head.byte (length (field_of (drop x.head.byte f))) group_total exact exact)

-- .. in the group that is open
unfoldable pub at_total : List ℕ → State → Finding
at_total f (at_item x) = total_found f x (sum (items_of x))
at_total f at_first = finding 10 100 0 0 0 group_total 0 0
at_total f (at_file x) = finding 10 100 0 0 0 group_total 0 0
at_total f (at_group x) = finding 10 100 0 0 0 group_total 0 0
at_total f (stop a) = finding 10 100 0 0 0 group_total 0 0

-- ---- the line at which judging stops

-- a fault of line k, which starts at `at`; where the line has none, the total is what is refused
unfoldable pub on_walked : Walked → ℕ → ℕ → Finding → Finding
on_walked passed k at z = z
on_walked (stopped x) k at z =
    finding x.number x.cause k (at + x.offset) x.length x.field x.least x.most

-- what is found in line k, at which judging stops where st is reached: 3 and 15 come before a line's fields, and 10 behind them
unfoldable pub blame : Sheet → ℕ → List ℕ → ℕ → Line → Kind → State → Finding
blame sh today f k t kind st =
    pick (is_due st kind)
    (pick (is_full sh st kind)
    (too_many sh k t st)
    (on_walked (why_as sh today (context_of st) t.bytes kind) k t.start (at_total f st)))
    (not_due k t st)

-- has judging stopped?
unfoldable pub halted : State → Bool
halted (stop a) = true
halted at_first = false
halted (at_file x) = false
halted (at_group x) = false
halted (at_item x) = false

-- is the file accepted?
unfoldable pub accepts : Answer → Bool
accepts (Refused n l p) = false
accepts (Accepted h b w) = true

-- where judging halts: the number of the line, the lines from there on, and what was reached before it
pub record Halt : Type 0 where
  pub line : ℕ
  pub left : List Line
  pub reached : State

-- these three
abbrev pub halting : ℕ → List Line → State → Halt
halting k ts st = record { line = k; left = ts; reached = st }

-- lines from line k on: at the first with which judging stops, or at the file's end
unfoldable pub halt_on : Sheet → ℕ → ℕ → List Line → State → Halt
halt_on sh today k [] st = halting k [] st
halt_on sh today k (t ∷ ts) st =
    pick (halted (step sh today k t st)) (halting k (t ∷ ts) st) (halt_on sh today (suc k) ts (step sh today k t st))

-- what is found there, in the file f
unfoldable pub found_at : Sheet → ℕ → List ℕ → ℕ → List Line → State → Finding
found_at sh today f k [] st = early (length f) k st
found_at sh today f k (t ∷ ts) st = blame sh today f k t (kind_of t.bytes) st

-- the one finding of a file that is refused
unfoldable pub found_in : Sheet → ℕ → List ℕ → Finding
found_in sh today f = let h = halt_on sh today 1 (lines_of 0 f) at_first in found_at sh today f h.line h.left h.reached

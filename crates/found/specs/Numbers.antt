-- What is found in a file, over the machine of numbers. Each definition is why's of the same name, with a count in the place of a list;
-- `proofs/Numbers.antt` says that both answer alike. Document 02, W-205. Assumes nothing.
use Rattle.std.specs.Prelude.{ℕ, List, length, drop, ◌==◌, nat_le, nat_lt}
use Rattle.base.specs.Pick.{pick}
use Rattle.sheet.specs.declared.Sheet.{Sheet}
use Rattle.paper.specs.Bytes.{field_of}
use Rattle.paper.specs.Batch.{most14}
use Rattle.paper.specs.Lines.{Line}
use Rattle.paper.specs.Entries.{Kind}
use Rattle.tally.specs.Tally.{Open, Tally, t_first, t_file, t_group, t_item, t_stop, context_of, is_due, is_full}
use Rattle.why.specs.declared.Finding.{Finding}
use Rattle.why.specs.Names.{group_total, whole_line}
use Rattle.why.specs.Walk.{why_as}
use Rattle.why.specs.Finding.{finding, on_walked}

-- ---- 3: which line was due

-- the cause, by what has come so far
unfoldable pub due_cause : Tally → ℕ
due_cause t_first = 30
due_cause (t_file b) = pick (b.files == 0) 31 36
due_cause (t_group b s) = pick (s.groups == 0) 32 35
due_cause (t_item b s o) = pick (o.count == 0) 33 34
due_cause (t_stop a) = 0

-- the line k, which is not due
unfoldable pub not_due : ℕ → Line → Tally → Finding
not_due k t c = finding 3 (due_cause c) k t.start (length t.bytes) whole_line 0 0

-- the file ends after n bytes, where line k would be
unfoldable pub early : ℕ → ℕ → Tally → Finding
early n k c = finding 3 (due_cause c) k n 0 whole_line 0 0

-- ---- 15: which limit was reached

-- the cause: of account files, of items of an account file, of items of the file
unfoldable pub full_cause : Tally → ℕ
full_cause t_first = 150
full_cause (t_file b) = 150
full_cause (t_group b s) = 150
full_cause (t_item b s o) = pick (nat_le 99999 s.items) 151 152
full_cause (t_stop a) = 150

-- so many were allowed
unfoldable pub full_limit : Sheet → Tally → ℕ
full_limit sh t_first = 1000
full_limit sh (t_file b) = 1000
full_limit sh (t_group b s) = 1000
full_limit sh (t_item b s o) = pick (nat_le 99999 s.items) 99999 sh.fileitems
full_limit sh (t_stop a) = 1000

-- the line k, which is one too many
unfoldable pub too_many : Sheet → ℕ → Line → Tally → Finding
too_many sh k t c = finding 15 (full_cause c) k t.start (length t.bytes) whole_line 0 (full_limit sh c)

-- ---- 10: the closing line has passed, and the total is refused

-- the file f, and the open group: its sum passes 14 digits, or is another than the total
unfoldable pub total_found : List ℕ → Open → Finding
total_found f o =
    pick (nat_lt most14 o.sum)
    (finding 10 101 o.line o.byte (length (field_of (drop o.byte f))) group_total 0 most14)
    (finding 10 100 o.line o.byte (length (field_of (drop o.byte f))) group_total o.sum o.sum)

-- .. in the group that is open
unfoldable pub at_total : List ℕ → Tally → Finding
at_total f t_first = finding 10 100 0 0 0 group_total 0 0
at_total f (t_file b) = finding 10 100 0 0 0 group_total 0 0
at_total f (t_group b s) = finding 10 100 0 0 0 group_total 0 0
at_total f (t_item b s o) = total_found f o
at_total f (t_stop a) = finding 10 100 0 0 0 group_total 0 0

-- ---- the line at which judging stops

-- what is found in line k, at which judging stops where these numbers are reached
unfoldable pub blame : Sheet → ℕ → List ℕ → ℕ → Line → Kind → Tally → Finding
blame sh today f k t kind c =
    pick (is_due c kind)
    (pick (is_full sh c kind)
    (too_many sh k t c)
    (on_walked (why_as sh today (context_of c) t.bytes kind) k t.start (at_total f c)))
    (not_due k t c)

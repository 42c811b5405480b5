-- The numbers of the code as those of the machine of numbers, and what a line of a group and a whole group lead to. Assumes nothing.
use Rattle.std.specs.Prelude.{ℕ, ◌+◌, ◌-◌, ◌≤◌, ◌<◌, ◌≡◌, Bool, Result, Ok, Err, List, [], length, take, drop}
use Rattle.base.specs.Pick.{pick}
use Rattle.refusal.specs.declared.Refusal.TheVariants.{BadTotal}
use Rattle.refusal.specs.Numbers.{number_of}
use Rattle.sheet.specs.declared.Sheet.{Sheet}
use Rattle.paper.specs.Batch.{Header, no_header}
use Rattle.paper.specs.Lines.{Line, line, lines_from}
use Rattle.paper.specs.Terms.{bank_due}
use Rattle.paper.specs.Spells.{differs}
use Rattle.paper.specs.Judge.{total_broken}
use Rattle.calendar.specs.declared.term.Banks.{Banks}
use Rattle.calendar.specs.term.Allows.{allows}
use Rattle.tally.specs.Tally as machine
use Rattle.tally.specs.Small.{SmallGroup, SmallItem}
use Rattle.judge.specs.declared.group.Counts.{Counts}
use Rattle.judge.specs.declared.group.Shelf.{Shelf}
use Rattle.judge.specs.declared.group.Open.{Open}
use Rattle.judge.specs.declared.group.Held.{Held}
use Rattle.judge.specs.declared.group.Turn.{Turn}
use Rattle.judge.specs.declared.group.Turn.TheVariants as turn
use Rattle.judge.specs.declared.group.GroupEnd.{GroupEnd}
use Rattle.judge.specs.declared.refused.Refused.{Refused}
use Rattle.judge.specs.refused.Lined.{refused}

-- ---- the machine's numbers

-- with a header and the first three digits of earlier account files' numbers, which the code does not keep here
abbrev pub book_of : Header → List ℕ → Counts → machine.Book
book_of h l c = record { head = h; seen = l; files = c.files; items = c.items; rows = c.rows; warnings = c.warnings }

abbrev pub shelf_of : Shelf → machine.Shelf
shelf_of s = record { kind = s.kind; items = s.items; groups = s.groups }

abbrev pub open_of : Open → machine.Open
open_of o = record { single = o.single; date = o.date; total = o.total; line = o.line; byte = o.byte; sum = o.sum; count = o.count }

-- a group is open, or an account file with no open group
abbrev pub in_group : Header → List ℕ → Held → machine.Tally
in_group h l x = machine.t_item (book_of h l x.counts) (shelf_of x.shelf) (open_of x.opened)

abbrev pub in_file : Header → List ℕ → Counts → Shelf → machine.Tally
in_file h l c s = machine.t_group (book_of h l c) (shelf_of s)

-- they are small, whatever the header and the earlier numbers are
abbrev pub LowItem : Held → Type 0
LowItem x = SmallItem (book_of no_header [] x.counts) (shelf_of x.shelf) (open_of x.opened)

abbrev pub LowGroup : Counts → Shelf → Type 0
LowGroup c s = SmallGroup (book_of no_header [] c) (shelf_of s)

-- ---- one line

-- the bytes of the file f from `at` to `stop`, as a line of it
abbrev pub line_in : List ℕ → ℕ → ℕ → Line
line_in f at stop = line at (take (stop - at) (drop at f))

-- with an item of this amount and these warnings more
unfoldable pub held_more : Held → ℕ → ℕ → Held
held_more x amount warnings =
    let c = x.counts in
    let s = x.shelf in
    let o = x.opened in
    record {
      counts = record { files = c.files; items = c.items + 1; rows = c.rows + 1; warnings = c.warnings + warnings };
      shelf = record { kind = s.kind; items = s.items + 1; groups = s.groups };
      opened = record { single = o.single; date = o.date; total = o.total; line = o.line; byte = o.byte; sum = o.sum + amount; count = o.count + 1 };
    }

-- what line k leads to in a group: an item more, the group closed, or the answer
abbrev pub turned : Sheet → ℕ → Header → List ℕ → Held → Result Turn Refused → machine.Tally
turned sh k h l x (Ok (turn.Item i)) = in_group h l (held_more x i.amount i.warnings)
turned sh k h l x (Ok turn.Close) = machine.closed sh (book_of h l x.counts) (shelf_of x.shelf) (open_of x.opened) 0
turned sh k h l x (Err r) = machine.t_stop (machine.No (number_of r.refusal) r.line r.byte)

-- these are the banks that the group's items may have
abbrev pub Banked : Sheet → ℕ → Banks → Held → Type 0
Banked sh today banks x = (bank : ℕ) → allows banks sh.bank bank ≡ bank_due sh today x.shelf.kind x.opened.date bank

-- r is what line k says in a group, which is the line t, whatever the header and the earlier numbers are
pub record Turns (sh : Sheet) (today k : ℕ) (t : Line) (x : Held) (r : Result Turn Refused) : Type 0 where
  pub same : (h : Header) (l : List ℕ) → turned sh k h l x r ≡ machine.step sh today k t (in_group h l x)

-- ---- a whole group

-- a closed group, behind which line k starts at `at`: refused at its total, or a group more
unfoldable pub closed_as : Bool → ℕ → ℕ → Held → Result GroupEnd Refused
closed_as strict at k x =
    let c = x.counts in
    let s = x.shelf in
    let o = x.opened in
    pick (total_broken strict o.total o.sum) (refused BadTotal o.line o.byte)
    (Ok
    (record {
      at = at;
      line = k;
      counts = record { files = c.files; items = c.items; rows = c.rows; warnings = c.warnings + differs o.total o.sum };
      shelf = record { kind = s.kind; items = s.items; groups = s.groups + 1 };
    }))

-- the answer of the whole file f from a group's end on
unfoldable pub resume_group : Sheet → ℕ → List ℕ → Header → List ℕ → Result GroupEnd Refused → machine.Brief
resume_group sh today f h l (Ok e) = machine.run sh today (length f) e.line (lines_from f e.at) (in_file h l e.counts e.shelf)
resume_group sh today f h l (Err r) = machine.No (number_of r.refusal) r.line r.byte

-- reading of f may stand at line k, which starts at `at`: no line's number passes its start, and the numbers are small
pub record Begun (f : List ℕ) (at k : ℕ) (x : Held) : Type 0 where
  pub inside : at ≤ length f
  pub lines : k ≤ at
  pub low : LowItem x

-- a group that began at `at` ends behind it, where the numbers are small again
abbrev pub Behind : List ℕ → ℕ → Result GroupEnd Refused → Type 0
Behind f at (Ok e) = (at < e.at) × (e.at ≤ length f) × (e.line ≤ e.at) × LowGroup e.counts e.shelf
Behind f at (Err r) = Unit {0}

-- r is how the group ends whose lines begin at `at` with line k: the file's answer from there on is the answer from r on
pub record Ended (sh : Sheet) (today : ℕ) (f : List ℕ) (at k : ℕ) (x : Held) (r : Result GroupEnd Refused) : Type 0 where
  pub same : (h : Header) (l : List ℕ) → resume_group sh today f h l r ≡ machine.run sh today (length f) k (lines_from f at) (in_group h l x)
  pub behind : Behind f at r

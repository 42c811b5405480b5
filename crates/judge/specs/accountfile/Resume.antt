-- Where reading of a file stands, and what a step of it does. Assumes nothing.
use Rattle.std.specs.Prelude.{ℕ, suc, ◌+◌, ◌-◌, ◌≤◌, Bool, ◌≡◌, Result, Ok, Err, List, [], length}
use Rattle.refusal.specs.Numbers.{number_of}
use Rattle.sheet.specs.declared.Sheet.{Sheet}
use Rattle.paper.specs.Batch.{Header, no_header}
use Rattle.paper.specs.Lines.{Line, lines_from}
use Rattle.fileline.specs.seen.Bits.{Holds}
use Rattle.tally.specs.Tally.{Brief, No, Yes, Tally, t_file, t_stop, step, run}
use Rattle.tally.specs.Small.{SmallFile}
use Rattle.judge.specs.declared.group.Counts.{Counts}
use Rattle.judge.specs.declared.group.Shelf.{Shelf}
use Rattle.judge.specs.declared.group.Held.{Held}
use Rattle.judge.specs.group.Stands.{book_of, in_group, in_file, LowItem, LowGroup}
use Rattle.judge.specs.declared.refused.Refused.{Refused}
use Rattle.judge.specs.declared.accountfile.Left.{Left}
use Rattle.judge.specs.declared.accountfile.Left.TheVariants as left

-- ---- where reading stands

-- the answer of the whole file f from there on, with the header and the first three digits of earlier account files' numbers
unfoldable pub resume : Sheet → ℕ → List ℕ → Header → List ℕ → Result Left Refused → Brief
resume sh today f h l (Ok (left.File at k c)) = run sh today (length f) k (lines_from f at) (t_file (book_of h l c))
resume sh today f h l (Ok (left.Group at k c s)) = run sh today (length f) k (lines_from f at) (in_file h l c s)
resume sh today f h l (Ok (left.Accepted rows warnings)) = Yes h l rows warnings
resume sh today f h l (Err r) = No (number_of r.refusal) r.line r.byte

-- the numbers are small where no account file is open, whatever the header and the earlier numbers are
abbrev pub LowFile : Counts → Type 0
LowFile c = SmallFile (book_of no_header [] c)

-- line k starts at `at`: its number does not pass its start, and the counts are small
pub record AtFile (f : List ℕ) (at k : ℕ) (c : Counts) : Type 0 where
  pub inside : at ≤ length f
  pub lines : k ≤ at
  pub low : LowFile c

pub record AtGroup (f : List ℕ) (at k : ℕ) (c : Counts) (s : Shelf) : Type 0 where
  pub inside : at ≤ length f
  pub lines : k ≤ at
  pub low : LowGroup c s

abbrev pub Good : List ℕ → Result Left Refused → Type 0
Good f (Ok (left.File at k c)) = AtFile f at k c
Good f (Ok (left.Group at k c s)) = AtGroup f at k c s
Good f (Ok (left.Accepted rows warnings)) = (rows ≤ 199999001) × (warnings ≤ 799992001)
Good f (Err r) = Unit {0}

-- how far it is to the answer: the bytes left, and one step more
abbrev pub to_go : List ℕ → Result Left Refused → ℕ
to_go f (Ok (left.File at k c)) = suc (length f - at)
to_go f (Ok (left.Group at k c s)) = suc (length f - at)
to_go f (Ok (left.Accepted rows warnings)) = 0
to_go f (Err r) = 0

-- ---- what the readers do

-- with an account file more
abbrev pub file_more : Counts → Counts
file_more c = record { files = c.files + 1; items = c.items; rows = c.rows + 1; warnings = c.warnings }

-- an account file of this kind that has nothing yet
abbrev pub new_shelf : ℕ → Shelf
new_shelf kind = record { kind = kind; items = 0; groups = 0 }

-- a group that has no item yet, with its line's warnings; its total stands in line k, at `byte`
unfoldable pub group_held : Counts → Shelf → ℕ → Bool → ℕ → ℕ → ℕ → ℕ → Held
group_held c s warnings single date total k byte =
    record {
      counts = record { files = c.files; items = c.items; rows = c.rows + 1; warnings = c.warnings + warnings };
      shelf = s;
      opened = record { single = single; date = date; total = total; line = k; byte = byte; sum = 0; count = 0 };
    }

-- x is that group, and its numbers are small
pub record NewHeld (c : Counts) (s : Shelf) (warnings : ℕ) (single : Bool) (date total k byte : ℕ) (x : Held) : Type 0 where
  pub same : x ≡ group_held c s warnings single date total k byte
  pub low : LowItem x

-- what a group's line leads to: the open group, or the answer
abbrev pub opened_to : Header → List ℕ → Result Held Refused → Tally
opened_to h l (Ok x) = in_group h l x
opened_to h l (Err r) = t_stop (No (number_of r.refusal) r.line r.byte)

-- the group's numbers are small
abbrev pub LowOpening : Result Held Refused → Type 0
LowOpening (Ok x) = LowItem x
LowOpening (Err r) = Unit {0}

-- r is what line k, which is the line t, leads to before a group, whatever the header and the earlier numbers are
pub record Opens (sh : Sheet) (today : ℕ) (t : Line) (k : ℕ) (c : Counts) (s : Shelf) (r : Result Held Refused) : Type 0 where
  pub same : (h : Header) (l : List ℕ) → opened_to h l r ≡ step sh today k t (in_file h l c s)
  pub low : LowOpening r

-- r is where reading stands behind a group whose lines begin at `at` with line k
pub record Grouped (sh : Sheet) (today : ℕ) (f : List ℕ) (at k : ℕ) (x : Held) (r : Result Left Refused) : Type 0 where
  pub same : (h : Header) (l : List ℕ) → resume sh today f h l r ≡ run sh today (length f) k (lines_from f at) (in_group h l x)
  pub good : Good f r
  pub less : to_go f r ≤ length f - at

-- from o to r: the file's answer stays, and r is nearer to it
pub record Moved (sh : Sheet) (today : ℕ) (f : List ℕ) (o r : Result Left Refused) : Type 0 where
  pub same : (h : Header) (l : List ℕ) → resume sh today f h l r ≡ resume sh today f h l o
  pub good : Good f r
  pub less : to_go f r + 1 ≤ to_go f o

-- r is the answer of a file that ends where line k would be, with no account file open
abbrev pub Ends : ℕ → ℕ → Counts → Result Left Refused → Type 0
Ends at k c r = (sh : Sheet) (today : ℕ) (f : List ℕ) → length f ≤ at → AtFile f at k c → Moved sh today f (Ok (left.File at k c)) r

-- The same where the words that hold the earlier numbers may change from `before` to `after`: if they held l, they hold some m now. The
-- header's interval goes from `from` to `to`.
abbrev pub Same : Sheet → ℕ → ℕ → ℕ → List ℕ → Result Left Refused → List ℕ → List ℕ → Result Left Refused → Type 0
Same sh today from to f o before after r =
    (h : Header) → h.from ≡ from → h.to ≡ to → (l : List ℕ) → Holds before l
    → (m : List ℕ) × Holds after m × (resume sh today f h m r ≡ resume sh today f h l o)

-- a step at which today does not count
pub record Stepped (sh : Sheet) (from to : ℕ) (f : List ℕ) (o : Result Left Refused) (before after : List ℕ) (r : Result Left Refused) : Type 0 where
  pub same : (today : ℕ) → Same sh today from to f o before after r
  pub good : Good f r
  pub less : to_go f r + 1 ≤ to_go f o

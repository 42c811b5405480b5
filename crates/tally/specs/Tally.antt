-- The machine of numbers: what judging keeps between lines when it builds no batch. Each definition is the judge's of the same name, with a
-- count in the place of a list; `proofs/Same.antt` says that both answer alike. Assumes nothing.
use Rattle.std.specs.Prelude.{ℕ, suc, ◌+◌, Bool, true, false, List, [], ◌∷◌, ◌++◌, eqb, leb, length}
use Rattle.base.specs.Pick.{pick}
use Rattle.sheet.specs.declared.Sheet.{Sheet}
use Rattle.paper.specs.Accounts.{is_nobody}
use Rattle.paper.specs.Batch.{Header, things}
use Rattle.paper.specs.Lines.{Line, lines_of}
use Rattle.paper.specs.Entries.{Saying, Counted, got, no, counted, Kind, head_line, file_line, group_line, item_line, group_end, file_end, kind_of, on_head, on_file, on_group, on_item}
use Rattle.paper.specs.FileLine.{series}
use Rattle.paper.specs.Spells.{Context, for_head, for_file, for_group, for_item, read_as, differs}
use Rattle.paper.specs.Judge.{Answer, Refused, Accepted, rev_on, seen, is, total_broken}

-- The judge's answer in brief: number, line and byte; or the header, the first three digits of account files' numbers (last one first), and the
-- counts of rows and warnings.
pub data Brief : Type 0 where
  No : ℕ → ℕ → ℕ → Brief
  Yes : Header → List ℕ → ℕ → ℕ → Brief

unfoldable pub brief : Answer → Brief
brief (Refused n l p) = No n l p
brief (Accepted h b w) = Yes h (seen (rev_on b [])) (length (things b)) w

-- of the file so far: the header, the first three digits of account files' numbers, account files, items, rows, warnings
pub record Book : Type 0 where
  pub head : Header
  pub seen : List ℕ
  pub files : ℕ
  pub items : ℕ
  pub rows : ℕ
  pub warnings : ℕ

-- of the open account file: its kind, items and closed groups
pub record Shelf : Type 0 where
  pub kind : ℕ
  pub items : ℕ
  pub groups : ℕ

-- of the open group: whether it is single, its due date, its total with its place, the sum and count of its items
pub record Open : Type 0 where
  pub single : Bool
  pub date : ℕ
  pub total : ℕ
  pub line : ℕ
  pub byte : ℕ
  pub sum : ℕ
  pub count : ℕ

pub data Tally : Type 0 where
  t_first : Tally
  t_file : Book → Tally
  t_group : Book → Shelf → Tally
  t_item : Book → Shelf → Open → Tally
  t_stop : Brief → Tally

abbrev pub new_book : Header → ℕ → Book
new_book h w = record { head = h; seen = []; files = 0; items = 0; rows = 0; warnings = w }

-- one account file, group or item more
abbrev pub more_file : Book → ℕ → ℕ → Book
more_file b number v =
    record { head = b.head; seen = series number ∷ b.seen; files = b.files + 1; items = b.items; rows = b.rows + 1; warnings = b.warnings + v }

abbrev pub more_group : Book → ℕ → Book
more_group b v = record { head = b.head; seen = b.seen; files = b.files; items = b.items; rows = b.rows + 1; warnings = b.warnings + v }

abbrev pub more_item : Book → ℕ → Book
more_item b v = record { head = b.head; seen = b.seen; files = b.files; items = b.items + 1; rows = b.rows + 1; warnings = b.warnings + v }

abbrev pub warned : Book → ℕ → Book
warned b v = record { head = b.head; seen = b.seen; files = b.files; items = b.items; rows = b.rows; warnings = b.warnings + v }

abbrev pub new_shelf : ℕ → Shelf
new_shelf kind = record { kind = kind; items = 0; groups = 0 }

abbrev pub item_more : Shelf → Shelf
item_more s = record { kind = s.kind; items = s.items + 1; groups = s.groups }

abbrev pub group_more : Shelf → Shelf
group_more s = record { kind = s.kind; items = s.items; groups = s.groups + 1 }

abbrev pub opened : Bool → ℕ → ℕ → ℕ → ℕ → Open
opened single date total line byte = record { single = single; date = date; total = total; line = line; byte = byte; sum = 0; count = 0 }

abbrev pub added : Open → ℕ → Open
added o amount =
    record { single = o.single; date = o.date; total = o.total; line = o.line; byte = o.byte; sum = o.sum + amount; count = o.count + 1 }

unfoldable pub context_of : Tally → Context
context_of t_first = for_head
context_of (t_file b) = for_file b.head b.seen
context_of (t_group b s) = for_group s.kind
context_of (t_item b s o) = for_item s.kind o.date o.single
context_of (t_stop a) = for_head

unfoldable pub is_due : Tally → Kind → Bool
is_due t_first k = is head_line k
is_due (t_file b) k = is file_line k
is_due (t_group b s) k = pick (is group_line k) true (pick (is file_end k) (pick (eqb s.groups 0) false true) false)
is_due (t_item b s o) k = pick (is item_line k) true (pick (is group_end k) (pick (eqb o.count 0) false true) false)
is_due (t_stop a) k = false

unfoldable pub is_full : Sheet → Tally → Kind → Bool
is_full sh t_first k = false
is_full sh (t_file b) k = leb 1000 b.files
is_full sh (t_group b s) k = false
is_full sh (t_item b s o) k = pick (is item_line k) (pick (leb 99999 s.items) true (leb sh.fileitems b.items)) false
is_full sh (t_stop a) k = false

unfoldable pub closed : Sheet → Book → Shelf → Open → ℕ → Tally
closed sh b s o v =
    pick (total_broken sh.strict o.total o.sum)
    (t_stop (No 10 o.line o.byte))
    (t_group (warned b (v + differs o.total o.sum)) (group_more s))

unfoldable pub meet : Sheet → ℕ → ℕ → Saying ℕ → Tally → Tally
meet sh k at t t_first = on_head t.entry (λ h. t_file (new_book h t.warnings)) (t_stop (No 3 k at))
meet sh k at t (t_file b) = on_file t.entry (λ kind number. t_group (more_file b number t.warnings) (new_shelf kind)) (t_stop (No 3 k at))
meet sh k at t (t_group b s) =
    on_group t.entry
    (λ payer total date. t_item (more_group b t.warnings) s (opened (is_nobody payer) date total k (at + t.places.total)))
    (t_file (warned b t.warnings))
    (t_stop (No 3 k at))
meet sh k at t (t_item b s o) =
    on_item t.entry
    (λ x. t_item (more_item b t.warnings) (item_more s) (added o x.amount))
    (closed sh b s o t.warnings)
    (t_stop (No 3 k at))
meet sh k at t (t_stop a) = t_stop a

unfoldable pub on_said : Sheet → ℕ → ℕ → Counted → Tally → Tally
on_said sh k at (got t) c = meet sh k at t c
on_said sh k at (no n off) c = t_stop (No n k (at + off))

unfoldable pub read : Sheet → ℕ → ℕ → Line → Kind → Tally → Tally
read sh today k t kind c =
    pick (is_due c kind)
    (pick (is_full sh c kind)
    (t_stop (No 15 k t.start))
    (on_said sh k t.start (counted (read_as sh today (context_of c) kind t.bytes)) c))
    (t_stop (No 3 k t.start))

unfoldable pub step : Sheet → ℕ → ℕ → Line → Tally → Tally
step sh today k t t_first = read sh today k t (kind_of t.bytes) t_first
step sh today k t (t_file b) = read sh today k t (kind_of t.bytes) (t_file b)
step sh today k t (t_group b s) = read sh today k t (kind_of t.bytes) (t_group b s)
step sh today k t (t_item b s o) = read sh today k t (kind_of t.bytes) (t_item b s o)
step sh today k t (t_stop a) = t_stop a

unfoldable pub end_of : ℕ → ℕ → Tally → Brief
end_of n k t_first = No 3 k n
end_of n k (t_file b) = pick (eqb b.files 0) (No 3 k n) (Yes b.head b.seen b.rows b.warnings)
end_of n k (t_group b s) = No 3 k n
end_of n k (t_item b s o) = No 3 k n
end_of n k (t_stop a) = a

unfoldable pub run : Sheet → ℕ → ℕ → ℕ → List Line → Tally → Brief
run sh today n k [] c = end_of n k c
run sh today n k (t ∷ ts) c = run sh today n (suc k) ts (step sh today k t c)

-- the file from its top, in brief
unfoldable pub tally : Sheet → ℕ → List ℕ → Brief
tally sh today f = run sh today (length f) 1 (lines_of 0 f) t_first

-- ---- numbers that came before the file: they count as seen

-- in front of those of the file
abbrev pub seed_book : List ℕ → Book → Book
seed_book u b = record { head = b.head; seen = b.seen ++ u; files = b.files; items = b.items; rows = b.rows; warnings = b.warnings }

unfoldable pub seed : List ℕ → Tally → Tally
seed u t_first = t_first
seed u (t_file b) = t_file (seed_book u b)
seed u (t_group b s) = t_group (seed_book u b) s
seed u (t_item b s o) = t_item (seed_book u b) s o
seed u (t_stop a) = t_stop a

-- the lines of a file, of n bytes, from its top: they are seen from the second line on
unfoldable pub seeded_run : List ℕ → Sheet → ℕ → ℕ → List Line → Brief
seeded_run u sh today n [] = end_of n 1 t_first
seeded_run u sh today n (t ∷ ts) = run sh today n 2 ts (seed u (step sh today 1 t t_first))

unfoldable pub seeded : List ℕ → Sheet → ℕ → List ℕ → Brief
seeded u sh today f = seeded_run u sh today (length f) (lines_of 0 f)

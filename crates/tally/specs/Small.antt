-- How large the numbers of the machine get. Each bound holds for every file, however long, and all stay below 2 ^ 64: at most 1,000
-- account files of 99,999 items, a group for an item at most, six warnings for an item, two for a group. Assumes nothing.
use Rattle.std.specs.Prelude.{◌+◌, ◌*◌, ◌≤◌}
use Rattle.tally.specs.Tally.{Book, Shelf, Open, Tally, t_first, t_file, t_group, t_item, t_stop}

-- no account file is open
pub record SmallFile (b : Book) : Type 0 where
  pub files : b.files ≤ 1000
  pub items : b.items ≤ 99999 * b.files
  pub rows : b.rows ≤ b.files + 2 * b.items
  pub warnings : b.warnings ≤ 8 * b.items

-- one is open, which the book counts already
pub record SmallGroup (b : Book) (s : Shelf) : Type 0 where
  pub files : b.files ≤ 1000
  pub items : b.items + 99999 ≤ 99999 * b.files + s.items
  pub rows : b.rows ≤ b.files + 2 * b.items
  pub warnings : b.warnings ≤ 8 * b.items
  pub shelf : s.items ≤ 99999
  pub groups : s.groups ≤ s.items

-- a group is open, whose row and items are counted already
pub record SmallItem (b : Book) (s : Shelf) (o : Open) : Type 0 where
  pub files : b.files ≤ 1000
  pub items : b.items + 99999 ≤ 99999 * b.files + s.items
  pub rows : b.rows + o.count ≤ b.files + 2 * b.items + 1
  pub warnings : b.warnings + 2 * o.count ≤ 8 * b.items + 1
  pub shelf : s.items ≤ 99999
  pub groups : s.groups + o.count ≤ s.items
  pub sum : o.sum ≤ o.count * 99999999999999

unfoldable pub Small : Tally → Type 0
Small t_first = Unit {0}
Small (t_file b) = SmallFile b
Small (t_group b s) = SmallGroup b s
Small (t_item b s o) = SmallItem b s o
Small (t_stop a) = Unit {0}

-- what follows for the numbers of the whole file, in every state
pub record Limits (b : Book) : Type 0 where
  pub files : b.files ≤ 1000
  pub items : b.items ≤ 99999000
  pub rows : b.rows ≤ 199999001
  pub warnings : b.warnings ≤ 799992001

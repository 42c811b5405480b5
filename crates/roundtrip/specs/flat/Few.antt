-- How many rows a batch can have, as its rows are counted. Document 01, "The batch". Assumes nothing.
use Rattle.std.specs.Prelude.{ℕ, ◌+◌, ◌*◌, ◌≤◌}
use Rattle.paper.specs.Proper.{Stage, need_file, need_group, need_item, any, Before}

-- at most so many rows at each stage, with `files` account files and `items` items of the last: between two groups stands an item
abbrev pub AtMost : Stage → ℕ → ℕ → ℕ → Type 0
AtMost need_file files items n = n ≤ 200000 * files
AtMost need_group files items n = n + 199999 ≤ 200000 * files
AtMost need_item files items n = n + 199998 ≤ 200000 * files + 2 * items
AtMost any files items n = n + 199999 ≤ 200000 * files + 2 * items

-- n rows stand before
pub record Few (b : Before) (n : ℕ) : Type 0 where
  pub files : b.files ≤ 1000
  pub items : b.items ≤ 99999
  pub rows : AtMost b.stage b.files b.items n

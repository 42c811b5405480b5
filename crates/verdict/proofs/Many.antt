-- How many rows an accepted file has: no more than one for every 8 bytes, so that as many rows as it has bytes are room enough. Assumes nothing.
use mathlib.Core.Path.{◌≡◌}
use mathlib.Core.Bool.{Bool, false}
use mathlib.Core.List.{List, [], ◌∷◌}
use Prim.Native.Nat.{ℕ, ◌*◌, ◌≤◌}
use native.Mathlib.Omega.{arith}
use lib.ListN.{length, length-append}
use Rattle.sheet.specs.declared.Sheet.{Sheet}
use Rattle.paper.specs.Batch.{Batch, Header}
use Rattle.paper.specs.Lines.{Line, lines_of}
use Rattle.paper.specs.Entries.{kind_of}
use Rattle.paper.specs.Spells.{Context, read_line}
use Rattle.paper.specs.Judge.{Accepted, judge}
use Rattle.paper.specs.Rows.{line_row, single_behind, accepted, lines_rows}
use Rattle.paper.specs.Reading.{row_count}
use Rattle.paper.proofs.LineSays.{says}
use Rattle.rowlaws.proofs.Main.{row-count}
use Rattle.verdict.proofs.Bytes.{total, lines-within}
use Rattle.verdict.proofs.Least.{row-least}

-- one line
line-bytes : (sh : Sheet) (today : ℕ) (c : Context) (start : ℕ) (s : List ℕ) → 8 * length (line_row start (read_line sh today c s)) ≤ length s
unfolding read_line
line-bytes sh today c start s = row-least sh start (says sh today c (kind_of s) s)

-- all lines
rows-total : (sh : Sheet) (today : ℕ) (b : Bool) (ls : List Line) → 8 * length (lines_rows sh today b ls) ≤ total ls
unfolding lines_rows total
rows-total sh today b [] = omega arith
rows-total sh today b (t ∷ ls) =
    let r = read_line sh today (accepted b) t.bytes in
    omega (
      arith,
      length-append (line_row t.start r) (lines_rows sh today (single_behind b r) ls),
      line-bytes sh today (accepted b) t.start t.bytes,
      rows-total sh today (single_behind b r) ls,
    )

-- the rows of any file, accepted or not
pub rows-eighth : (sh : Sheet) (today : ℕ) (f : List ℕ) → 8 * length (lines_rows sh today false (lines_of 0 f)) ≤ length f
rows-eighth sh today f = omega (arith, rows-total sh today false (lines_of 0 f), (lines-within 0 f).all)

module _ (sh : Sheet) (today : ℕ) (f : List ℕ) (h : Header) (b : Batch) (w : ℕ) (accepted : judge sh today f ≡ Accepted h b w) where
  -- of an accepted file: one row at most for every 8 bytes,
  pub count-eighth : 8 * row_count b ≤ length f
  count-eighth = omega (arith, rows-eighth sh today f, row-count sh today f h b w accepted)

  -- so as many rows as it has bytes are enough.
  pub count-within : row_count b ≤ length f
  count-within = omega (arith, count-eighth)

-- The rows that reading leaves of an accepted file, for any sheet and any day. Assumes nothing.
use mathlib.Core.Path.{◌≡◌, ap, ◌∙◌}
use mathlib.Core.Bool.{Bool, false}
use mathlib.Core.List.{List}
use Prim.Native.Nat.{ℕ, ◌*◌, ◌^◌, ◌<◌}
use lib.Dec.{lit<}
use lib.ListN.{length}
use Rattle.sheet.specs.declared.Sheet.{Sheet}
use Rattle.paper.specs.Batch.{Batch, Header, things}
use Rattle.paper.specs.Lines.{Line, lines_of}
use Rattle.paper.specs.Judge.{Accepted, judge}
use Rattle.paper.specs.Words.{rows_bytes}
use Rattle.paper.specs.Rows.{rows_in, things_in, lines_rows}
use Rattle.out.specs.word.Sizes.{Long, Smalls}
use Rattle.out.proofs.word.Rows.{rows-length, rows_back}
use Rattle.scan.proofs.line.Places.{lines-stand}
use Rattle.exact.proofs.Main.{exact}
use Rattle.rowlaws.proofs.Filled.{Rows, batch-rows, rows-count, rows_tell}
use Rattle.rowlaws.proofs.Fitting.{batch-small}
use Rattle.rowlaws.proofs.Lengths.{lines_long}

-- every row of any lines has 24 words
pub row-words : (sh : Sheet) (today : ℕ) (single : Bool) (ls : List Line) → Long 24 (lines_rows sh today single ls)
row-words = lines_long

module _ (sh : Sheet) (today : ℕ) (f : List ℕ) (h : Header) (b : Batch) (w : ℕ) (accepted : judge sh today f ≡ Accepted h b w) where
  all-rows : Rows f (lines_rows sh today false (lines_of 0 f)) (things b)
  all-rows = batch-rows sh today f h b w (lines-stand f) ((exact sh today f h b w).0 accepted).lines

  -- there are as many rows as the batch has account files, groups and items,
  pub row-count : length (lines_rows sh today false (lines_of 0 f)) ≡ length (things b)
  row-count = rows-count all-rows

  -- 192 bytes for each;
  pub row-bytes : length (rows_bytes (lines_rows sh today false (lines_of 0 f))) ≡ 192 * length (things b)
  row-bytes = rows-length 24 _ (row-words sh today false (lines_of 0 f)) ∙ ap (λ (n : ℕ). 192 * n) row-count

  -- over the file's own bytes they hold the batch;
  pub rows-hold : things_in f (lines_rows sh today false (lines_of 0 f)) ≡ things b
  rows-hold = rows_tell all-rows

  -- and where the file's places fit eight bytes, so do the words,
  pub rows-small : length f < 2 ^ 64 → Smalls (lines_rows sh today false (lines_of 0 f))
  rows-small l = batch-small f _ b all-rows ((exact sh today f h b w).0 accepted).rules.3 l

  -- so that the rows are got back from their bytes.
  pub rows-return : length f < 2 ^ 64 → rows_in (rows_bytes (lines_rows sh today false (lines_of 0 f))) ≡ lines_rows sh today false (lines_of 0 f)
  rows-return l = rows_back 24 (lit< tt) _ (row-words sh today false (lines_of 0 f)) (rows-small l)

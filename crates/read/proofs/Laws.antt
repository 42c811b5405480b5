-- The whole answer and the lent rows afterwards, by the judge's answer in brief. Assumes nothing.
use Rattle.std.proofs.Common.{Some}
use mathlib.Core.Path.{◌≡◌, sym, ap, ◌∙◌}
use mathlib.Core.Bool.{true, false}
use mathlib.Core.List.{List, ◌++◌}
use Prim.Native.Nat.{ℕ, ◌*◌, ◌/◌, ◌≤◌, ◌<◌}
use native.Mathlib.Omega.{arith}
use lib.ListN.{length, drop}
use borrow.Author.Tests.{lt-ltb, le-ltb}
use Rattle.base.specs.Pick.{pick}
use Rattle.sheet.specs.declared.Sheet.{Sheet}
use Rattle.paper.specs.Days.{real_day}
use Rattle.paper.specs.Batch.{Batch, Header, things}
use Rattle.paper.specs.Lines.{lines_of}
use Rattle.paper.specs.Judge.{Refused, Accepted, judge}
use Rattle.paper.specs.Words.{rows_bytes}
use Rattle.paper.specs.Rows.{row_size, lines_rows}
use Rattle.paper.specs.Reading.{refused_at, needs, accepted_as, answered, read_with, filled, rows_with}
use Rattle.tally.specs.Short.{No, Yes, tally}
use Rattle.tally.proofs.Short.{tally-is, refused-is, accepted-is}
use Rattle.rowlaws.proofs.Main.{row-bytes}
use Rattle.fill.specs.file.Judged.{AllSaid}
use Rattle.read.proofs.Said.{file-said}

-- ---- the answer and the rows

module _ (sh : Sheet) (today : ℕ) (f lent : List ℕ) where
  -- 2: today is no day
  pub no_day : real_day today ≡ false → (room : ℕ) → refused_at 2 0 0 ≡ read_with (Some sh) today f room
  unfolding read_with pick
  no_day e room = rw e

  pub no-day-rows : real_day today ≡ false → lent ≡ rows_with (Some sh) today f lent
  unfolding rows_with pick
  no-day-rows e = rw e

  module _ (real : real_day today ≡ true) where
    -- the file is refused: with that number, line and byte, and the rows are left alone
    module _ (n l p : ℕ) (e : tally sh today f ≡ No n l p) where
      judged-no : judge sh today f ≡ Refused n l p
      judged-no = refused-is _ n l p (sym (tally-is sh today f) ∙ e)

      pub refused-answer : (room : ℕ) → refused_at n l p ≡ read_with (Some sh) today f room
      unfolding read_with answered pick
      refused-answer room = rw (real, judged-no)

      pub refused-rows : lent ≡ rows_with (Some sh) today f lent
      unfolding rows_with filled pick
      refused-rows = rw (real, judged-no)

    -- the file is accepted, with n rows
    module _ (h : Header) (n w : ℕ) (e : tally sh today f ≡ Yes h n w) where
      judged-yes : (b : Batch) × (judge sh today f ≡ Accepted h b w) × (n ≡ length (things b))
      judged-yes = accepted-is _ h n w (sym (tally-is sh today f) ∙ e)

      -- no line of it is refused
      pub lines-said : AllSaid sh today false (lines_of 0 f)
      lines-said = let j = judged-yes in file-said sh today f h j.0 w j.1

      -- there are fewer: 16, and the rows are left alone
      pub short-answer : (room : ℕ) → room < n → needs n ≡ read_with (Some sh) today f room
      unfolding read_with answered pick
      short-answer room s = let j = judged-yes in rw (real, j.1, ← j.2, lt-ltb _ _ s)

      pub short-rows : length lent / row_size < n → lent ≡ rows_with (Some sh) today f lent
      unfolding rows_with filled pick
      short-rows s = let j = judged-yes in rw (real, j.1, ← j.2, lt-ltb _ _ s)

      -- there are enough: 0, and the file's rows stand in front of the old bytes
      pub full-answer : (room : ℕ) → n ≤ room → accepted_as h n w ≡ read_with (Some sh) today f room
      unfolding read_with answered pick
      full-answer room s = let j = judged-yes in rw (real, j.1, ← j.2, le-ltb _ _ s)

      bytes : length (rows_bytes (lines_rows sh today false (lines_of 0 f))) ≡ 192 * n
      bytes = let j = judged-yes in row-bytes sh today f h j.0 w j.1 ∙ ap (λ (k : ℕ). 192 * k) (sym j.2)

      -- the rows' bytes have room,
      pub full-room : n ≤ length lent / row_size → length (rows_bytes (lines_rows sh today false (lines_of 0 f))) ≤ length lent
      full-room s = omega (arith, bytes)

      -- and behind them stand the old ones
      pub full-rows : n ≤ length lent / row_size
          → rows_bytes (lines_rows sh today false (lines_of 0 f)) ++ drop (length (rows_bytes (lines_rows sh today false (lines_of 0 f)))) lent
          ≡ rows_with (Some sh) today f lent
      unfolding rows_with filled pick
      full-rows s = let j = judged-yes in rw (bytes, real, j.1, ← j.2, le-ltb _ _ s)

-- Writing passes over the references of items' rows, and reading leaves none. Document 02, W-206. Assumes nothing.
use Rattle.std.proofs.Common.{Option, Some, None}
use mathlib.Core.Path.{◌≡◌, refl, ap}
use mathlib.Core.Bool.{false}
use mathlib.Core.List.{List}
use Prim.Native.Nat.{ℕ, ◌*◌, ◌/◌, ◌^◌, ◌<◌}
use native.Mathlib.Omega.{arith}
use lib.Dec.{ltb}
use lib.ListN.{length, take, drop}
use lib.Seq.{take_at}
use Rattle.base.specs.Pick.{pick}
use Rattle.base.proofs.Cases.{by-test}
use Rattle.sheet.specs.declared.Sheet.{Sheet}
use Rattle.sheet.specs.Sheets.{sheet_of}
use Rattle.paper.specs.Days.{real_day}
use Rattle.paper.specs.Batch.{Header, Thing}
use Rattle.paper.specs.Lines.{lines_of}
use Rattle.paper.specs.Judge.{Answer, Refused, Accepted, judge}
use Rattle.paper.specs.Words.{rows_bytes}
use Rattle.paper.specs.Rows.{row_size, rows_in, lines_rows}
use Rattle.paper.specs.Reading.{refused_at, needs, accepted_as, row_count, answered, read_with, read_answer, filled, rows_with, rows_after}
use Rattle.paper.specs.Writing.{draft_with, draft}
use Rattle.exact.proofs.named.Main.{judge-named}
use Rattle.rowlaws.specs.References.{AllAlike, Unreferred}
use Rattle.rowlaws.proofs.References.{things-alike, lines-unreferred}
use Rattle.rowlaws.proofs.Main.{row-bytes, rows-return}

-- rows that differ in references alone are written alike: the same file, or the same refusal
pub references : (sheet today : ℕ) (h : Header) (rows rows' texts : List ℕ) → AllAlike (rows_in rows) (rows_in rows')
    → draft sheet today h rows texts ≡ draft sheet today h rows' texts
unfolding draft
references sheet today h rows rows' texts a = ap (λ (ts : List Thing). draft_with (sheet_of sheet) today h ts) (things-alike texts (rows_in rows) (rows_in rows') a)

-- ---- the rows that an accepted reading leaves

-- of the rows that the answer counts
abbrev Left : ℕ → List ℕ → Type 0
Left n left = Unreferred (rows_in (take (row_size * n) left))

module _ (sh : Sheet) (today : ℕ) (f lent : List ℕ) (small : length f < 2 ^ 64) where
  judged-left : (a : Answer) → judge sh today f ≡ a → (answered (length lent / row_size) a).number ≡ 0
      → Left (answered (length lent / row_size) a).rows (filled sh today f lent a)
  unfolding answered filled accepted_as needs refused_at pick
  judged-left (Refused n l p) e zero = absurd (let (least, _) = judge-named sh today f n l p e in omega arith)
  judged-left (Accepted h b w) e zero =
      by-test (ltb (length lent / row_size) (row_count b))
      (λ t. absurd (let z = rw t at zero in omega arith))
      (λ t.
      let rows = lines_rows sh today false (lines_of 0 f) in
      let front = take_at (rows_bytes rows) (drop (row_size * row_count b) lent) (row_size * row_count b) (row-bytes sh today f h b w e) in
      rw (t, front, rows-return sh today f h b w e small) (lines-unreferred sh today false (lines_of 0 f)))

known-left : (k : Option Sheet) (today : ℕ) (f lent : List ℕ) → length f < 2 ^ 64 → (read_with k today f (length lent / row_size)).number ≡ 0
    → Left (read_with k today f (length lent / row_size)).rows (rows_with k today f lent)
unfolding read_with rows_with refused_at pick
known-left None today f lent small zero = absurd (omega arith)
known-left (Some sh) today f lent small zero =
    by-test (real_day today)
    (λ e. rw e (judged-left sh today f lent small (judge sh today f) refl (rw e at zero)))
    (λ e. absurd (let z = rw e at zero in omega arith))

-- every item's reference is 0, whatever stood there
pub read-reference : (sheet today : ℕ) (f lent : List ℕ) → length f < 2 ^ 64 → (read_answer sheet today f lent).number ≡ 0
    → Unreferred (rows_in (take (row_size * (read_answer sheet today f lent).rows) (rows_after sheet today f lent)))
unfolding read_answer rows_after
read-reference sheet today f lent small zero = known-left (sheet_of sheet) today f lent small zero

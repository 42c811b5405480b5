-- What was read of an input of 8 KiB: its answer is a refusal's, or its rows draft the canonical file, for which there is room. Assumes nothing.
use Rattle.std.proofs.Common.{Some}
use mathlib.Core.Path.{◌≡◌, refl, ap, ◌∙◌}
use mathlib.Core.Bool.{true, false}
use mathlib.Core.List.{List}
use Prim.Native.Nat.{ℕ, ◌*◌, ◌/◌, ◌≤◌}
use native.Mathlib.Omega.{arith}
use lib.ListN.{length, take, drop}
use lib.Seq.{take_at}
use Rattle.sheet.specs.declared.Sheet.{Sheet}
use Rattle.sheet.specs.Sheets.{sheet_of}
use Rattle.sheet.proofs.Laws as sheets
use Rattle.paper.specs.Days.{real_day}
use Rattle.paper.specs.Batch.{Batch, Header, things}
use Rattle.paper.specs.Lines.{lines_of}
use Rattle.paper.specs.Judge.{Answer, Refused, Accepted, judge}
use Rattle.paper.specs.Words.{rows_bytes}
use Rattle.paper.specs.Rows.{row_size, rows_in, things_in, lines_rows}
use Rattle.paper.specs.Reading.{ReadAnswer, refused_at, accepted_as, row_count, read_answer, rows_after}
use Rattle.paper.specs.Canonical.{canon}
use Rattle.paper.specs.Explaining.{refused_line}
use Rattle.paper.specs.Writing.{drafted, draft, draft_of}
use Rattle.paper.specs.Rewriting.{rewritten}
use Rattle.exact.proofs.named.Main.{judge-named}
use Rattle.rowlaws.proofs.Main as rows
use Rattle.roundtrip.proofs.whole.Main as whole
use Rattle.roundtrip.proofs.whole.Drafts.{draft-known}
use Rattle.outcomes.proofs.Reading.{says-refused, says-accepted, rows-filled}
use Rattle.bounds.specs.Most.{most_input, most_rows, most_output}
use Rattle.bounds.proofs.Files.{rows-enough, output-enough}

-- the answer a, the rows left in the lent bytes, and what is to be written
pub data Outcome (sh : Sheet) (today : ℕ) (f left : List ℕ) (a : ReadAnswer) : Type 0 where
  -- a refusal
  refuses : (a.number ≡ 0 → ⊥) → rewritten sh (judge sh today f) ≡ refused_line a.number a.line a.byte → Outcome sh today f left a
  -- rows that draft the canonical file
  accepts : a.number ≡ 0 → a.rows ≤ most_rows → length (rewritten sh (judge sh today f)) ≤ most_output
      → draft sh.number today a.header (take (192 * a.rows) left) f ≡ drafted (rewritten sh (judge sh today f)) → Outcome sh today f left a

module _ (sh : Sheet) (named : sheet_of sh.number ≡ Some sh) (today : ℕ) (day : real_day today ≡ true) (f lent : List ℕ) (small : length f ≤ most_input) (room : 192 * most_rows ≤ length lent) where
  -- the rows of an accepted file hold its batch
  module _ (h : Header) (b : Batch) (w : ℕ) (e : judge sh today f ≡ Accepted h b w) where
    enough : row_count b ≤ length lent / row_size
    enough = omega (arith, rows-enough sh (sheets.sane sh.number sh named) today f h b w e small, room)

    front : take (192 * row_count b) (rows_after sh.number today f lent) ≡ rows_bytes (lines_rows sh today false (lines_of 0 f))
    front =
        ap (λ (s : List ℕ). take (192 * row_count b) s) (rows-filled sh.number sh named today day f lent h b w e enough)
        ∙ take_at (rows_bytes (lines_rows sh today false (lines_of 0 f))) (drop (row_size * row_count b) lent) (192 * row_count b) (rows.row-bytes sh today f h b w e)

    held : things_in f (rows_in (take (192 * row_count b) (rows_after sh.number today f lent))) ≡ things b
    held =
        ap (λ (s : List ℕ). things_in f (rows_in s)) front
        ∙ ap (things_in f) (rows.rows-return sh today f h b w e (omega (arith, small)))
        ∙ rows.rows-hold sh today f h b w e

    drafts : draft sh.number today h (take (192 * row_count b) (rows_after sh.number today f lent)) f ≡ drafted (canon sh h b)
    drafts =
        draft-known sh.number sh named today day h (take (192 * row_count b) (rows_after sh.number today f lent)) f
        ∙ ap (draft_of sh today h) held
        ∙ whole.rewrites sh (sheets.sane sh.number sh named) today f h b w e

  outcome-of : (j : Answer) → judge sh today f ≡ j → Outcome sh today f (rows_after sh.number today f lent) (read_answer sh.number today f lent)
  unfolding rewritten refused_at accepted_as
  outcome-of (Refused n l p) e =
      let (least, _) = judge-named sh today f n l p e in
      rw (says-refused sh.number sh named today day f lent n l p e) (refuses (λ z. omega (arith, least, z)) (rw e refl))
  outcome-of (Accepted h b w) e =
      let sane = sheets.sane sh.number sh named in
      rw (says-accepted sh.number sh named today day f lent h b w e (enough h b w e))
      (accepts refl (rows-enough sh sane today f h b w e small) (rw e (output-enough sh sane today f h b w e small)) (rw e (drafts h b w e)))

  pub outcome : (a : ReadAnswer) (left : List ℕ) → a ≡ read_answer sh.number today f lent → left ≡ rows_after sh.number today f lent → Outcome sh today f left a
  outcome a left g i = rw (g, i) (outcome-of (judge sh today f) refl)

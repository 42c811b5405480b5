-- What writing refuses, and what is read of what it writes, on a known sheet and a real day. Assumes nothing.
use Rattle.std.proofs.Common.{Some}
use mathlib.Core.Path.{◌≡◌, sym, ap, ◌∙◌}
use mathlib.Core.Bool.{true}
use mathlib.Core.List.{List}
use mathlib.Core.Logic.{◌↔◌}
use Prim.Native.Nat.{ℕ, ◌/◌, ◌^◌, ◌≤◌, ◌<◌}
use lib.ListN.{length}
use Rattle.sheet.specs.declared.Sheet.{Sheet}
use Rattle.sheet.specs.Sheets.{sheet_of}
use Rattle.paper.specs.Days.{real_day}
use Rattle.paper.specs.Batch.{Batch, Header}
use Rattle.paper.specs.Spells.{Spells}
use Rattle.paper.specs.Judge.{judge}
use Rattle.paper.specs.Rows.{row_size, rows_in, things_in}
use Rattle.paper.specs.Reading.{row_count}
use Rattle.paper.specs.Canonical.{canon}
use Rattle.paper.specs.Writing.{drafted, refusal, Refuses, draft}
use Rattle.exact.proofs.Main.{exact}
use Rattle.roundtrip.specs.whole.Carries.{head_read, past_warnings}
use Rattle.roundtrip.proofs.whole.Main as whole
use Rattle.roundtrip.proofs.whole.Drafts.{by-draft, draft-known}
use Rattle.outcomes.specs.Outcomes.{ReadsAs, Hold, WritesAs}
use Rattle.outcomes.proofs.Reading as reading
use Rattle.outcomes.proofs.Writing as writing

module _ (sheet : ℕ) (sh : Sheet) (named : sheet_of sheet ≡ Some sh) (today : ℕ) (day : real_day today ≡ true) (h : Header) (rows texts : List ℕ) where
  -- what is written, where there is room, is the canonical file of the batch that the rows hold
  pub canonical : (out s : List ℕ) → length s ≤ length out → WritesAs sheet today h rows texts out s → (b : Batch) × Hold rows texts b × (s ≡ canon sh h b)
  canonical out s room w =
      let (b, held, c, _) = whole.rows_written sheet sh named today day h rows texts s ((writing.writes sheet today h rows texts out s room).0 w) in
      (b, held, c)

  -- rows that hold the same batch are drafted alike
  pub one-file : (rows' texts' : List ℕ) (b : Batch) → Hold rows texts b → Hold rows' texts' b → draft sheet today h rows texts ≡ draft sheet today h rows' texts'
  one-file rows' texts' b p q =
      draft-known sheet sh named today day h rows texts ∙ rw (← p, q) (sym (draft-known sheet sh named today day h rows' texts'))

  -- it is refused exactly if no file spells the batch
  pub refused-exactly : Refuses (draft sheet today h rows texts)
      ↔ ((b : Batch) (f : List ℕ) (w : ℕ) → Hold rows texts b → Spells sh today f (head_read sh h) b w → ⊥)
  refused-exactly =
      let r = whole.rows-refused sheet sh named today day h rows texts in (
        λ d b f w held s. r.0 d b f w held ((exact sh today f (head_read sh h) b w).1 s),
        λ none. r.1 (λ b f w held e. none b f w held ((exact sh today f (head_read sh h) b w).0 e)),
      )

  -- with 20 or 21
  pub refused-by : (n row field : ℕ) → draft sheet today h rows texts ≡ refusal n row field → (20 ≤ n) × (n ≤ 21)
  refused-by n row field e =
      writing.draft-late sh today h (things_in texts (rows_in rows)) n row field (sym (draft-known sheet sh named today day h rows texts) ∙ e)

  -- otherwise the canonical file is written, and spells the batch
  pub otherwise-written : (Refuses (draft sheet today h rows texts) → ⊥)
      → (b : Batch) × Hold rows texts b × ((out : List ℕ) → length (canon sh h b) ≤ length out → WritesAs sheet today h rows texts out (canon sh h b))
      × Spells sh today (canon sh h b) (head_read sh h) b (past_warnings sh today b)
  otherwise-written not =
      by-draft (draft sheet today h rows texts)
      (λ s e.
      let (b, held, c, j) = whole.rows_written sheet sh named today day h rows texts s e in (
        b,
        held,
        λ out room. (writing.writes sheet today h rows texts out (canon sh h b) room).1 (e ∙ ap drafted c),
        (exact sh today (canon sh h b) (head_read sh h) b (past_warnings sh today b)).0 (ap (λ (x : List ℕ). judge sh today x) (sym c) ∙ j),
      ))
      (λ r. absurd (not r))

  -- and with room for its rows it is read back
  pub read_back : (Refuses (draft sheet today h rows texts) → ⊥)
      → (b : Batch) × Hold rows texts b
      × ((lent : List ℕ) → row_count b ≤ length lent / row_size → length (canon sh h b) < 2 ^ 64
      → ReadsAs sheet today (canon sh h b) lent (head_read sh h) b (past_warnings sh today b))
  read_back not =
      let (b, held, _, s) = otherwise-written not in
      (b, held, λ lent room small. (reading.reads sheet sh named today day (canon sh h b) lent (head_read sh h) b (past_warnings sh today b) room small).1 s)

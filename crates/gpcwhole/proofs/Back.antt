-- What is written comes back: the answers of writing and of reading the written file, put together. Assumes nothing.
use mathlib.Core.Path.{◌≡◌, ap, ◌∙◌}
use mathlib.Core.List.{List}
use Prim.Native.Nat.{ℕ}
use lib.ListN.{length, take}
use Rattle.paper.specs.Writing.{WriteAnswer, written_in, output_after}
use Rattle.gpc.specs.Canonical.{canon}
use Rattle.gpc.specs.Answers.{statement_answer, statement_rows, statement_draft}
use Rattle.gpcwhole.specs.Outcomes.{WritesAs, ComesBack}
use Rattle.gpcwhole.proofs.Reading.{reads}
use Rattle.gpcwhole.proofs.Writing.{written-only}

module _ (rows out : List ℕ) where
  -- the bytes that writing counts, in front of the output that it leaves, are the file
  front : (s : List ℕ) → WritesAs rows out s
      → take (written_in (length out) (statement_draft rows)).bytes (output_after out (statement_draft rows)) ≡ s
  front s w =
      ap (λ (a : WriteAnswer). take a.bytes (output_after out (statement_draft rows))) w.answer ∙ w.stands

  -- Where writing says 0, they come back.
  pub comes_back : (lent : List ℕ) → (written_in (length out) (statement_draft rows)).number ≡ 0
      → ComesBack rows (take (written_in (length out) (statement_draft rows)).bytes (output_after out (statement_draft rows))) lent
      (statement_answer (take (written_in (length out) (statement_draft rows)).bytes (output_after out (statement_draft rows))) lent)
      (statement_rows (take (written_in (length out) (statement_draft rows)).bytes (output_after out (statement_draft rows))) lent)
  comes_back lent z =
      let (ss, holding, s, w) = written-only rows out z in
      rw (front (canon ss) w) (record { statements = ss; held = holding; back = λ l. (reads (canon ss) lent ss l).1 s })

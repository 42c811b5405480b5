-- What is written comes back: the answers of writing and of reading the written file, put together. Assumes nothing.
use Rattle.std.proofs.Common.{Option, Some, None}
use mathlib.Core.Path.{◌≡◌, refl, sym, ap, ◌∙◌}
use mathlib.Core.Bool.{true}
use mathlib.Core.List.{List, ◌++◌}
use Prim.Native.Nat.{ℕ, ◌^◌, ◌≤◌, ◌<◌}
use native.Mathlib.Omega.{arith}
use lib.ListN.{length, take, drop, length-append}
use lib.Seq.{take_at}
use Rattle.base.proofs.Cases.{by-lt, by-test, pick_true, pick-false}
use borrow.Author.Tests.{lt-ltb, le-ltb}
use Rattle.sheet.specs.declared.Sheet.{Sheet}
use Rattle.sheet.specs.Sheets.{sheet_of}
use Rattle.paper.specs.Days.{real_day}
use Rattle.paper.specs.Batch.{Header, Thing}
use Rattle.paper.specs.Rows.{rows_in, things_in}
use Rattle.paper.specs.Reading.{read_answer, rows_after}
use Rattle.paper.specs.Writing.{Draft, drafted, refusal, draft_with, draft, WriteAnswer, written_in, output_after}
use Rattle.exact.proofs.Main.{exact}
use Rattle.roundtrip.specs.whole.Carries.{head_read, past_warnings}
use Rattle.roundtrip.proofs.whole.Main as whole
use Rattle.roundtrip.proofs.whole.Drafts.{not-both}
use Rattle.outcomes.specs.Outcomes.{ComesBack}
use Rattle.outcomes.proofs.Reading as reading
use Rattle.outcomes.proofs.Writing.{draft-numbered}

-- ---- what was written lies in the output

-- The bytes that writing counts lie in the output that is left, whatever the draft.
pub written-inside : (out : List ℕ) (d : Draft) → (written_in (length out) d).number ≡ 0 → (written_in (length out) d).bytes ≤ length (output_after out d)
unfolding written_in output_after
written-inside out (refusal n row field) z = omega arith
written-inside out (drafted s) z =
    by-lt (length out) (length s)
    (λ l. absurd (let e : 16 ≡ 0 = sym (ap (λ (a : WriteAnswer). a.number) (pick_true _ _ (lt-ltb (length out) (length s) l))) ∙ z in omega arith))
    (λ l.
    let f = le-ltb (length out) (length s) l in
    rw (pick-false out (s ++ drop (length s) out) f)
    (rw (pick-false {A = WriteAnswer} (record { number = 16; row = 0; field = 0; bytes = length s }) (record { number = 0; row = 0; field = 0; bytes = length s }) f)
    (omega (arith, length-append s (drop (length s) out)))))

-- ---- a draft that is a file is that of a known sheet and a real day

abbrev Dated : ℕ → ℕ → Type 0
Dated sheet today = (sh : Sheet) × (sheet_of sheet ≡ Some sh) × (real_day today ≡ true)

dated : (sheet today : ℕ) (h : Header) (ts : List Thing) (s : List ℕ) (k : Option Sheet) → sheet_of sheet ≡ k → draft_with k today h ts ≡ drafted s → Dated sheet today
unfolding draft_with
dated sheet today h ts s None k e = not-both (refusal 1 0 0) s e (1, 0, 0, refl)
dated sheet today h ts s (Some sh) k e =
    by-test (real_day today)
    (λ day. (sh, k, day))
    (λ no. not-both (refusal 2 0 0) s (sym (pick-false _ _ no) ∙ e) (2, 0, 0, refl))

drafted-dated : (sheet today : ℕ) (h : Header) (rows texts s : List ℕ) → draft sheet today h rows texts ≡ drafted s → Dated sheet today
unfolding draft
drafted-dated sheet today h rows texts s e = dated sheet today h (things_in texts (rows_in rows)) s (sheet_of sheet) refl e

-- ---- and back

module _ (sheet today : ℕ) (h : Header) (rows texts out lent : List ℕ) where
  -- the draft is a file that fits, and reading the output's front reads it
  drafted-back : (s : List ℕ) → draft sheet today h rows texts ≡ drafted s → length s < 2 ^ 64
      → ComesBack sheet today h rows texts s lent (read_answer sheet today s lent) (rows_after sheet today s lent)
  drafted-back s e small =
      let (sh, Known-as, day) = drafted-dated sheet today h rows texts s e in
      let (b, held_by, c, j) = whole.rows_written sheet sh Known-as today day h rows texts s e in
      record {
        sheet-of = sh;
        named = Known-as;
        batch = b;
        held = held_by;
        back = λ room. (reading.reads sheet sh Known-as today day s lent (head_read sh h) b (past_warnings sh today b) room small).1
            ((exact sh today s (head_read sh h) b (past_warnings sh today b)).0 j);
      }

  -- Where writing says 0, the bytes that it counts come back from the output that it leaves.
  pub comes_back : (d : Draft) → draft sheet today h rows texts ≡ d → (written_in (length out) d).number ≡ 0
      → length (take (written_in (length out) d).bytes (output_after out d)) < 2 ^ 64
      → ComesBack sheet today h rows texts (take (written_in (length out) d).bytes (output_after out d)) lent
      (read_answer sheet today (take (written_in (length out) d).bytes (output_after out d)) lent)
      (rows_after sheet today (take (written_in (length out) d).bytes (output_after out d)) lent)
  unfolding written_in output_after
  comes_back (refusal n row field) e z small = absurd (let one : 1 ≤ n = rw e at (draft-numbered sheet today h rows texts) in omega arith)
  comes_back (drafted s) e z small =
      by-lt (length out) (length s)
      (λ l. absurd (let y : 16 ≡ 0 = sym (ap (λ (a : WriteAnswer). a.number) (pick_true _ _ (lt-ltb (length out) (length s) l))) ∙ z in omega arith))
      (λ l.
      let f = le-ltb (length out) (length s) l in
      let front : take (written_in (length out) (drafted s)).bytes (output_after out (drafted s)) ≡ s =
      rw (pick-false {A = WriteAnswer} (record { number = 16; row = 0; field = 0; bytes = length s }) (record { number = 0; row = 0; field = 0; bytes = length s }) f)
      (ap (λ (o : List ℕ). take (length s) o) (pick-false out (s ++ drop (length s) out) f) ∙ take_at s (drop (length s) out) (length s) refl) in
      rw front (drafted-back s e (rw front at small)))

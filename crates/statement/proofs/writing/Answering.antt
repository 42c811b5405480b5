-- The whole answer of writing statements, by what the rows were judged to be: rules for a search. Assumes nothing.
use mathlib.Core.Path.{◌≡◌, refl, sym, ap, ◌∙◌}
use mathlib.Core.Bool.{true, false}
use mathlib.Core.List.{List, [], ◌∷◌}
use Prim.Native.Nat.{ℕ, zero, suc, ◌+◌, ◌*◌, ◌/◌, ◌≤◌, ◌<◌}
use native.Mathlib.Numerals.{add-one}
use native.Mathlib.Omega.{arith}
use lib.Dec.{ltb}
use lib.ListN.{length, drop}
use borrow.Author.Tests.{lt-ltb, le-ltb}
use Rattle.std.specs.Prelude.{Result, Ok, Err}
use Rattle.refusal.specs.Numbers.{number_of}
use Rattle.base.proofs.Cases.{either, pick_true, pick-false}
use Rattle.paper.specs.Bytes.{null}
use Rattle.paper.specs.Writing.{drafted, WriteAnswer, written_in, output_after}
use Rattle.write.specs.Told.{refused_at, counted_as}
use Rattle.gpc.specs.Parts.{pieces, pieces_on}
use Rattle.gpc.specs.Records.{Thing, saids}
use Rattle.gpc.specs.Statements.{things, row_spots, refused}
use Rattle.gpc.specs.Canonical.{canon}
use Rattle.gpc.specs.StatementRows.{things_on, things_in, testeds}
use Rattle.gpc.specs.Answers.{draft_of, judge_rows, statement_draft}
use Rattle.gpcexact.proofs.Main.{exact}
use Rattle.gpcexact.proofs.Named.{rows_row}
use Rattle.gpcback.specs.Proper.{AllProper}
use Rattle.gpcback.proofs.Many.{spells-length}
use Rattle.gpcback.proofs.ManySound.{rows-tested}
use Rattle.statement.specs.declared.run.Fault.{Fault}
use Rattle.statement.specs.Forms.{in_rows, Putable, PutAll}
use Rattle.statement.specs.run.Follows.{Tells}
use Rattle.statement.specs.writing.Accepted.{Accepted}
use Rattle.statement.proofs.Pieces.{rows_all, rows-puts}
use Rattle.statement.proofs.reading.Answering.{refused_as, accepted-as}

-- ---- there are no more rows than bytes

on-few : (n k : ℕ) (s : List ℕ) → length (pieces_on n k s) ≤ k + 1
unfolding pieces_on
on-few n zero s = either (λ (l : List (List ℕ)). length l ≤ 1) (null s) (λ _. omega arith) (λ _. omega arith)
on-few n (suc k) s = omega (arith, on-few n k (drop n s))

things-length : (rs : List (List ℕ)) → length (things_on rs) ≡ length rs
unfolding things_on
things-length [] = refl
things-length (r ∷ rs) = ap suc (things-length rs)

few : (rows : List ℕ) → length (things_in rows) ≤ length rows / 136 + 1
unfolding things_in pieces
few rows = omega (arith, things-length (pieces 136 rows), on-few 136 (length rows / 136) rows)

-- ---- `accept`

module _ (rows out : List ℕ) (count : ℕ) (a : Accepted rows count) where
  pub bytes_fit : length rows < 18446744073709551616 → 130 * count < 18446744073709551616
  bytes_fit l = omega (arith, a.few)

  held : (things_in rows ≡ things a.statements) × AllProper (things a.statements)
  unfolding judge_rows
  held = rows-tested rows a.statements ((exact row_spots (testeds (things_in rows)) a.statements).0 a.judged).read

  said : testeds (things_in rows) ≡ saids (things a.statements)
  unfolding judge_rows
  said = ((exact row_spots (testeds (things_in rows)) a.statements).0 a.judged).read

  long : length (canon a.statements) ≡ 130 * count
  unfolding canon
  long = spells-length (things a.statements) held.1 ∙ omega (arith, a.counted)

  draft-is : statement_draft rows ≡ drafted (canon a.statements)
  unfolding statement_draft draft_of
  draft-is = rw a.judged refl

  module _ (l : length out < 130 * count) where
    short : ltb (length out) (length (canon a.statements)) ≡ true
    short = lt-ltb (length out) (length (canon a.statements)) (omega (arith, l, long))

    pub no_room : (b : WriteAnswer) → b ≡ counted_as 16 (130 * count) → b ≡ written_in (length out) (statement_draft rows)
    unfolding written_in
    no_room b e = e ∙ rw (draft-is, ← long) (sym (pick_true _ _ short))

    pub left_alone : out ≡ output_after out (statement_draft rows)
    unfolding output_after
    left_alone = rw draft-is (sym (pick_true _ _ short))

  module _ (l : 130 * count ≤ length out) where
    enough : ltb (length out) (length (canon a.statements)) ≡ false
    enough = le-ltb (length out) (length (canon a.statements)) (omega (arith, l, long))

    pub has_room : (b : WriteAnswer) → b ≡ counted_as 0 (130 * count) → b ≡ written_in (length out) (statement_draft rows)
    unfolding written_in
    has_room b e = e ∙ rw (draft-is, ← long) (sym (pick-false _ _ enough))

    pub can-fill : Putable in_rows rows (length out)
    can-fill =
        record {
          things = things a.statements;
          read = rows_all rows ∙ said;
          proper = held.1;
          room = omega (arith, l, a.counted);
        }

    pub filled-file : (o : List ℕ) → PutAll in_rows rows out o → o ≡ output_after out (statement_draft rows)
    unfolding output_after canon
    filled-file o p =
        let same : 130 * length (things a.statements) ≡ length (canon a.statements) = omega (arith, long, a.counted) in
        p.by (things a.statements) (rows_all rows ∙ said)
        ∙ rw (rows-puts (things a.statements), same, draft-is) (sym (pick-false _ _ enough))

pub ruleset accepting = (bytes_fit, no_room, left_alone, has_room, can-fill, filled-file)

-- ---- `write_statements`: m is what the rows were judged to be

module _ (rows out : List ℕ) (m : Result ℕ Fault) (t : Tells (length (things_in rows)) (judge_rows rows) m) where
  module _ (r : Fault) (q : m ≡ Err r) where
    refused-so : judge_rows rows ≡ refused (number_of r.flaw.0) r.behind r.flaw.1
    refused-so = refused_as (judge_rows rows) (number_of r.flaw.0) r.behind r.flaw.1 (rw q at t)

    pub refused-inside : length rows < 18446744073709551616 → r.behind + 1 < 18446744073709551616
    refused-inside l = omega (arith, rows_row rows (number_of r.flaw.0) r.behind r.flaw.1 refused-so, few rows)

    pub refused-told : (b : WriteAnswer) → b ≡ refused_at (number_of r.flaw.0) (r.behind + 1) r.flaw.1 → b ≡ written_in (length out) (statement_draft rows)
    unfolding statement_draft draft_of written_in
    refused-told b e = e ∙ rw (refused-so, add-one r.behind) refl

    pub refused-kept : out ≡ output_after out (statement_draft rows)
    unfolding statement_draft draft_of output_after
    refused-kept = rw refused-so refl

  pub accepted-told : (count : ℕ) → m ≡ Ok count → Accepted rows count
  unfolding judge_rows
  accepted-told count q =
      let (n, e) : Tells (length (things_in rows)) (judge_rows rows) (Ok count) = rw q at t in
      let (ss, s) = accepted-as (judge_rows rows) e in
      let (h, p) = rows-tested rows ss ((exact row_spots (testeds (things_in rows)) ss).0 s).read in
      record { statements = ss; judged = s; counted = n ∙ ap (λ (l : List Thing). length l) h; few = omega (arith, n, few rows) }

pub ruleset answering = (refused-inside, refused-told, refused-kept, accepted-told)
